-- What holds of a node at every point of every history.
use Rattle.std.specs.Prelude.{◌≡◌, ℕ, ◌≤◌, Bool, true, ◌&&◌, List, length}
use Rattle.switch.specs.Meanings.{Meaning}
use Rattle.switch.specs.Ports.{is_forwarding}
use Rattle.settings.specs.Setups.{Setup, within}
use Rattle.event.specs.Events.{Event}
use Rattle.outbox.specs.Rows.{opened}
use Rattle.node.specs.declared.Role.{Role}
use Rattle.node.specs.Nodes.{acts}
use Rattle.node.specs.declared.Node.{Node}
use Rattle.node.specs.declared.Node.TheVariants.{Client, Manager}
use Rattle.node_laws.specs.Links.{Both}
use Rattle.node_laws.specs.Histories.{Happened, after, links_after}
use Rattle.node_laws.specs.Clients.{ClientFit}
use Rattle.node_laws.specs.Managers.{ManagerFit, Counted, is_open}

-- the state agrees with the links that the node was told of, with its port states and with its timers
abbrev pub Fit : Node → Meaning → Both Bool → Type 0
Fit (Client m) w l = ClientFit m w l
Fit (Manager m) w l = ManagerFit m w l

abbrev pub AlwaysFit : Type 0
AlwaysFit = (r : Role) (s : Setup) (w : Meaning) (h : List Happened) → Fit (after r s w h).machine (after r s w h).switch (links_after h)

-- a manager's two ports both forward exactly while the ring is open
abbrev pub Opens : Node → Meaning → Type 0
Opens (Client m) w = Unit {0}
Opens (Manager m) w = (is_forwarding w.first && is_forwarding w.second) ≡ is_open m.state

abbrev pub AlwaysOpens : Type 0
AlwaysOpens = (r : Role) (s : Setup) (w : Meaning) (h : List Happened) → Opens (after r s w h).machine (after r s w h).switch

-- a manager's counts stay within their limits, where its settings are within theirs
abbrev pub InCount : Node → Type 0
InCount (Client m) = Unit {0}
InCount (Manager m) = Counted m

abbrev pub AlwaysInCount : Type 0
AlwaysInCount = (r : Role) (s : Setup) (w : Meaning) (h : List Happened) → within s ≡ true → InCount (after r s w h).machine

-- an event sends four frames at most
abbrev pub FourFrames : Type 0
FourFrames = (stamp : ℕ) (e : Event) (n : Node) (w : Meaning) → length (acts stamp e (opened n w)).sent ≤ 4
