-- Histories of a node: what happened since it was started, the newest first.
use Rattle.std.specs.Prelude.{ℕ, ◌<◌, Bool, false, List, [], ◌∷◌}
use Rattle.switch.specs.Meanings.{Meaning}
use Rattle.settings.specs.Setups.{Setup}
use Rattle.event.specs.Events.{Event}
use Rattle.outbox.specs.Rows.{Row, opened, quiet}
use Rattle.node.specs.declared.Role.{Role}
use Rattle.node.specs.Nodes.{started, acts}
use Rattle.node.specs.declared.Node.{Node}
use Rattle.node_laws.specs.Links.{Both, both, told}

-- an event, with the time stamp that it came with
pub record Happened : Type 0 where
  pub stamp : ℕ
  pub event : Event

-- a node that was fitted with settings s to a switch w, and what it sent at the last event
module _ (r : Role) (s : Setup) (w : Meaning) where
  abbrev pub after : List Happened → Row Node
  after [] = opened (started r s) (quiet w)
  after (e ∷ h) = acts e.stamp e.event (opened (after h).machine (after h).switch)

-- the links that it was told to be up
abbrev pub links_after : List Happened → Both Bool
links_after [] = both false false
links_after (e ∷ h) = told e.event (links_after h)

-- time stamps are numbers of 32 bits
abbrev pub Stamped : List Happened → Type 0
Stamped [] = Unit {0}
Stamped (e ∷ h) = (e.stamp < 4294967296) × Stamped h
