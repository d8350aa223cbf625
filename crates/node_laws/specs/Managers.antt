-- Which links, port states and timers a manager's state means.
use Rattle.std.specs.Prelude.{◌≡◌, ◌-◌, ◌<◌, Bool, true, false}
use Rattle.switch.specs.Meanings.{Meaning}
use Rattle.switch.specs.declared.port.Port.{Port}
use Rattle.switch.specs.declared.port.PortState.{PortState}
use Rattle.switch.specs.declared.port.PortState.TheVariants.{Blocked, Forwarding}
use Rattle.event.specs.Events.{is_on}
use Rattle.manager.specs.Machines.{Machine}
use Rattle.manager.specs.declared.state.State.{State}
use Rattle.manager.specs.declared.state.State.TheVariants.{AcStat1, PrmUp, ChkRc, ChkRo}
use Rattle.node_laws.specs.Links.{Both, both, put, ports}

-- links that are up, p being the primary port
abbrev pub links_in : State → Port → Both Bool
links_in AcStat1 p = both false false
links_in PrmUp p = put p true (both false false)
links_in ChkRc p = both true true
links_in ChkRo p = both true true

-- port states
abbrev pub ports_in : State → Port → Both PortState
ports_in AcStat1 p = both Blocked Blocked
ports_in PrmUp p = put p Forwarding (both Blocked Blocked)
ports_in ChkRc p = put p Forwarding (both Blocked Blocked)
ports_in ChkRo p = both Forwarding Forwarding

-- whether the test timer runs
abbrev pub test_runs : State → Bool
test_runs AcStat1 = false
test_runs PrmUp = true
test_runs ChkRc = true
test_runs ChkRo = true

-- the ring is open in CHK_RO
abbrev pub is_open : State → Bool
is_open AcStat1 = false
is_open PrmUp = false
is_open ChkRc = false
is_open ChkRo = true

-- a manager agrees with its switch w and with the links l that it was told of
pub record ManagerFit (m : Machine) (w : Meaning) (l : Both Bool) : Type 0 where
  pub links : l ≡ links_in m.state m.primary
  pub states : ports w ≡ ports_in m.state m.primary
  pub tests : is_on m.test_timer ≡ test_runs m.state

-- its counts are within their limits; with no announcement under way the repeats are those of the start
pub record Counted (m : Machine) : Type 0 where
  pub misses : m.misses < m.setup.test_count
  pub repeats : m.repeats < m.setup.topology_count
  pub rests : is_on m.topology_timer ≡ false → m.repeats ≡ m.setup.topology_count - 1
