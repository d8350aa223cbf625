-- What a manager keeps, and how each part of it changes.
use Rattle.std.specs.Prelude.{ℕ, ◌+◌, ◌-◌, ◌%◌, ◌≤◌, Bool, false, None, Option}
use Rattle.switch.specs.declared.port.Port.{Port}
use Rattle.switch.specs.declared.port.Port.TheVariants.{One}
use Rattle.settings.specs.Setups.{Setup, Within}
use Rattle.event.specs.declared.Timer.{Timer}
use Rattle.event.specs.declared.Timer.TheVariants as timer
use Rattle.manager.specs.declared.state.State.{State}
use Rattle.manager.specs.declared.state.State.TheVariants.{AcStat1}

-- its settings and state; the primary port; tests missed; whether a short test is pending; its timers, with the
-- interval each was started with; announcements left to repeat; how often the ring opened or closed; the next sequence
-- number
pub record Machine : Type 0 where
  pub setup : Setup
  pub state : State
  pub primary : Port
  pub misses : ℕ
  pub pending : Bool
  pub test_timer : Option ℕ
  pub topology_timer : Option ℕ
  pub repeats : ℕ
  pub transitions : ℕ
  pub sequence : ℕ

-- what holds of every manager: its settings are within their limits, and no more announcements are left than a count can ask for
pub record Bounded (m : Machine) : Type 0 where
  pub within : Within m.setup
  pub few : m.repeats ≤ 10

-- as it starts
abbrev pub started : Setup → Machine
started s = record { setup = s; state = AcStat1; primary = One; misses = 0; pending = false; test_timer = None; topology_timer = None; repeats = s.topology_count - 1; transitions = 0; sequence = 0 }

abbrev pub in_state : State → Machine → Machine
in_state x m = record { setup = m.setup; state = x; primary = m.primary; misses = m.misses; pending = m.pending; test_timer = m.test_timer; topology_timer = m.topology_timer; repeats = m.repeats; transitions = m.transitions; sequence = m.sequence }

abbrev pub with_primary : Port → Machine → Machine
with_primary x m = record { setup = m.setup; state = m.state; primary = x; misses = m.misses; pending = m.pending; test_timer = m.test_timer; topology_timer = m.topology_timer; repeats = m.repeats; transitions = m.transitions; sequence = m.sequence }

abbrev pub with_misses : ℕ → Machine → Machine
with_misses x m = record { setup = m.setup; state = m.state; primary = m.primary; misses = x; pending = m.pending; test_timer = m.test_timer; topology_timer = m.topology_timer; repeats = m.repeats; transitions = m.transitions; sequence = m.sequence }

abbrev pub with_pending : Bool → Machine → Machine
with_pending x m = record { setup = m.setup; state = m.state; primary = m.primary; misses = m.misses; pending = x; test_timer = m.test_timer; topology_timer = m.topology_timer; repeats = m.repeats; transitions = m.transitions; sequence = m.sequence }

abbrev pub with_test : Option ℕ → Machine → Machine
with_test x m = record { setup = m.setup; state = m.state; primary = m.primary; misses = m.misses; pending = m.pending; test_timer = x; topology_timer = m.topology_timer; repeats = m.repeats; transitions = m.transitions; sequence = m.sequence }

abbrev pub with_topology : Option ℕ → Machine → Machine
with_topology x m = record { setup = m.setup; state = m.state; primary = m.primary; misses = m.misses; pending = m.pending; test_timer = m.test_timer; topology_timer = x; repeats = m.repeats; transitions = m.transitions; sequence = m.sequence }

abbrev pub with_repeats : ℕ → Machine → Machine
with_repeats x m = record { setup = m.setup; state = m.state; primary = m.primary; misses = m.misses; pending = m.pending; test_timer = m.test_timer; topology_timer = m.topology_timer; repeats = x; transitions = m.transitions; sequence = m.sequence }

-- after 65,535 comes 0
abbrev pub one_more_transition : Machine → Machine
one_more_transition m = record { setup = m.setup; state = m.state; primary = m.primary; misses = m.misses; pending = m.pending; test_timer = m.test_timer; topology_timer = m.topology_timer; repeats = m.repeats; transitions = (m.transitions + 1) % 65536; sequence = m.sequence }

-- a sequence number is used; after 65,535 comes 0
abbrev pub numbered : Machine → Machine
numbered m = record { setup = m.setup; state = m.state; primary = m.primary; misses = m.misses; pending = m.pending; test_timer = m.test_timer; topology_timer = m.topology_timer; repeats = m.repeats; transitions = m.transitions; sequence = (m.sequence + 1) % 65536 }

-- the interval of a timer that runs; a manager has two
abbrev pub timer_in : Machine → Timer → Option ℕ
timer_in m timer.Test = m.test_timer
timer_in m timer.Topology = m.topology_timer
timer_in m timer.LinkUp = None
timer_in m timer.LinkDown = None
timer_in m timer.Clear = None
