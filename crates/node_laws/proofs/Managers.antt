-- A manager's state goes on agreeing with links, ports and timers.
use Rattle.std.proofs.Common.{◌≡◌, ℕ, ◌≤◌, Bool, ◌&&◌, arith}
use Rattle.switch.specs.Meanings.{Meaning}
use Rattle.switch.specs.Ports.{is_forwarding}
use Rattle.event.specs.Events.{Event}
use Rattle.outbox.specs.Rows.{opened}
use Rattle.manager.specs.Machines.{Machine}
use Rattle.manager.specs.Rows.{acts}
use Rattle.node_laws.specs.Links.{Both, told}
use Rattle.node_laws.specs.Managers.{ManagerFit, Counted, is_open}

pub manager_kept : (stamp : ℕ) (e : Event) (m : Machine) (w : Meaning) (l : Both Bool) → ManagerFit m w l → ManagerFit (acts stamp e (opened m w)).machine (acts stamp e (opened m w)).switch (told e l)
manager_kept stamp e m w l fit = grind arith

pub both_forward_lem : (m : Machine) (w : Meaning) (l : Both Bool) → ManagerFit m w l → (is_forwarding w.first && is_forwarding w.second) ≡ is_open m.state
both_forward_lem m w l fit = grind arith

pub counted_kept : (stamp : ℕ) (e : Event) (m : Machine) (w : Meaning) → 2 ≤ m.setup.test_count → 1 ≤ m.setup.topology_count → Counted m → Counted (acts stamp e (opened m w)).machine
counted_kept stamp e m w h k c = grind arith

pub setup_kept : (stamp : ℕ) (e : Event) (m : Machine) (w : Meaning) → (acts stamp e (opened m w)).machine.setup ≡ m.setup
setup_kept stamp e m w = grind arith
