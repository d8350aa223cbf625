-- What a client keeps, and how each part of it changes.
use Rattle.std.specs.Prelude.{ℕ, ◌+◌, ◌%◌, ◌≤◌, None, Option}
use Rattle.switch.specs.declared.port.Port.{Port}
use Rattle.switch.specs.declared.port.Port.TheVariants.{One}
use Rattle.settings.specs.Setups.{Setup, Within}
use Rattle.event.specs.declared.Timer.{Timer}
use Rattle.event.specs.declared.Timer.TheVariants as timer
use Rattle.client.specs.declared.state.State.{State}
use Rattle.client.specs.declared.state.State.TheVariants.{AcStat1}

-- its settings and state; the primary port; its timers, with the interval each was started with; how many link frames of
-- an announcement are left; the next sequence number
pub record Machine : Type 0 where
  pub setup : Setup
  pub state : State
  pub primary : Port
  pub up_timer : Option ℕ
  pub down_timer : Option ℕ
  pub clear_timer : Option ℕ
  pub left : ℕ
  pub sequence : ℕ

-- what holds of every client: its settings are within their limits, and no more link frames are left than a count can ask for
pub record Bounded (m : Machine) : Type 0 where
  pub within : Within m.setup
  pub few : m.left ≤ 10

-- C1: as it starts
abbrev pub started : Setup → Machine
started s = record { setup = s; state = AcStat1; primary = One; up_timer = None; down_timer = None; clear_timer = None; left = s.link_count; sequence = 0 }

abbrev pub in_state : State → Machine → Machine
in_state x m = record { setup = m.setup; state = x; primary = m.primary; up_timer = m.up_timer; down_timer = m.down_timer; clear_timer = m.clear_timer; left = m.left; sequence = m.sequence }

abbrev pub with_primary : Port → Machine → Machine
with_primary x m = record { setup = m.setup; state = m.state; primary = x; up_timer = m.up_timer; down_timer = m.down_timer; clear_timer = m.clear_timer; left = m.left; sequence = m.sequence }

abbrev pub with_up : Option ℕ → Machine → Machine
with_up x m = record { setup = m.setup; state = m.state; primary = m.primary; up_timer = x; down_timer = m.down_timer; clear_timer = m.clear_timer; left = m.left; sequence = m.sequence }

abbrev pub with_down : Option ℕ → Machine → Machine
with_down x m = record { setup = m.setup; state = m.state; primary = m.primary; up_timer = m.up_timer; down_timer = x; clear_timer = m.clear_timer; left = m.left; sequence = m.sequence }

abbrev pub with_clear : Option ℕ → Machine → Machine
with_clear x m = record { setup = m.setup; state = m.state; primary = m.primary; up_timer = m.up_timer; down_timer = m.down_timer; clear_timer = x; left = m.left; sequence = m.sequence }

abbrev pub with_left : ℕ → Machine → Machine
with_left x m = record { setup = m.setup; state = m.state; primary = m.primary; up_timer = m.up_timer; down_timer = m.down_timer; clear_timer = m.clear_timer; left = x; sequence = m.sequence }

-- a sequence number is used; after 65,535 comes 0
abbrev pub numbered : Machine → Machine
numbered m = record { setup = m.setup; state = m.state; primary = m.primary; up_timer = m.up_timer; down_timer = m.down_timer; clear_timer = m.clear_timer; left = m.left; sequence = (m.sequence + 1) % 65536 }

-- the interval of a timer that runs; a client has three
abbrev pub timer_in : Machine → Timer → Option ℕ
timer_in m timer.Test = None
timer_in m timer.Topology = None
timer_in m timer.LinkUp = m.up_timer
timer_in m timer.LinkDown = m.down_timer
timer_in m timer.Clear = m.clear_timer
