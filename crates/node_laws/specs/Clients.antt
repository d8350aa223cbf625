-- Which links, port states and timers a client's state means.
use Rattle.std.specs.Prelude.{◌≡◌, ◌≤◌, Bool, true, false}
use Rattle.switch.specs.Meanings.{Meaning}
use Rattle.switch.specs.declared.port.Port.{Port}
use Rattle.switch.specs.declared.port.PortState.{PortState}
use Rattle.switch.specs.declared.port.PortState.TheVariants.{Blocked, Forwarding}
use Rattle.event.specs.Events.{is_on}
use Rattle.client.specs.Machines.{Machine}
use Rattle.client.specs.declared.state.State.{State}
use Rattle.client.specs.declared.state.State.TheVariants.{AcStat1, DeIdle, De, Pt, PtIdle}
use Rattle.node_laws.specs.Links.{Both, both, put, ports}

-- links that are up, p being the primary port
abbrev pub links_in : State → Port → Both Bool
links_in AcStat1 p = both false false
links_in DeIdle p = put p true (both false false)
links_in De p = put p true (both false false)
links_in Pt p = both true true
links_in PtIdle p = both true true

-- port states
abbrev pub ports_in : State → Port → Both PortState
ports_in AcStat1 p = both Blocked Blocked
ports_in DeIdle p = put p Forwarding (both Blocked Blocked)
ports_in De p = put p Forwarding (both Blocked Blocked)
ports_in Pt p = put p Forwarding (both Blocked Blocked)
ports_in PtIdle p = both Forwarding Forwarding

-- whether the link-up timer runs
abbrev pub up_runs : State → Bool
up_runs AcStat1 = false
up_runs DeIdle = false
up_runs De = false
up_runs Pt = true
up_runs PtIdle = false

-- whether the link-down timer runs
abbrev pub down_runs : State → Bool
down_runs AcStat1 = false
down_runs DeIdle = false
down_runs De = true
down_runs Pt = false
down_runs PtIdle = false

-- a client agrees with its switch w and with the links l that it was told of
pub record ClientFit (m : Machine) (w : Meaning) (l : Both Bool) : Type 0 where
  pub links : l ≡ links_in m.state m.primary
  pub states : ports w ≡ ports_in m.state m.primary
  pub up : is_on m.up_timer ≡ up_runs m.state
  pub down : is_on m.down_timer ≡ down_runs m.state
  pub few : m.left ≤ m.setup.link_count
