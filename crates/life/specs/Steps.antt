-- One step of a running node, and what holds wherever steps have led it.
use Rattle.std.specs.Prelude.{◌≡◌, ℕ, List, length, Ok, Err, Result}
use Rattle.refusal.specs.declared.Refusal.{Refusal}
use Rattle.switch.specs.Meanings.{Meaning}
use Rattle.settings.specs.Setups.{Setup, Within}
use Rattle.event.specs.Events.{Event, turns, hears, expires}
use Rattle.outbox.specs.declared.places.Outbox.{Outbox}
use Rattle.outbox.specs.Boxes.{Sent, laid}
use Rattle.outbox.specs.Rows.{opened}
use Rattle.node.specs.declared.Role.{Role}
use Rattle.node.specs.Nodes.{setup_of, acts, expire_answer}
use Rattle.node.specs.declared.Node.{Node}
use Rattle.node_laws.specs.Histories.{Happened, after, links_after, Stamped}
use Rattle.node_laws.specs.Tables.{Fit, Opens}
use Rattle.node_laws.specs.Saying.{ReadsBack, Every}

-- only a timer is ever refused
abbrev pub step_answer : Event → Node → Result (Unit {0}) Refusal
step_answer (turns p b) n = Ok tt
step_answer (hears p xs) n = Ok tt
step_answer (expires k) n = expire_answer k n

-- the frames stand in the first places, in their order, and all else stays; after a refusal everything stays
abbrev pub filled : Result (Unit {0}) Refusal → Setup → List Sent → Outbox → Outbox
filled (Ok x) s fs o = record { places = laid s fs o.places; count = length fs }
filled (Err e) s fs o = o

-- whatever led a started node here, its state agrees with its links, its ports and its timers, and a manager's ports
-- both forward exactly while the ring is open
abbrev pub Here : Node → Meaning → Type 0
Here n w = (r : Role) (s : Setup) (v : Meaning) (h : List Happened) → (after r s v h).machine ≡ n → (after r s v h).switch ≡ w → Fit n w (links_after h) × Opens n w

-- whatever led it here, all that it sent in its last step reads back as it was meant
abbrev pub SaidBack : Node → Meaning → List Sent → Type 0
SaidBack n w fs = (r : Role) (s : Setup) (v : Meaning) (h : List Happened) → Within s → Stamped h → (after r s v h).machine ≡ n → (after r s v h).switch ≡ w → (after r s v h).sent ≡ fs → Every (ReadsBack s) fs

-- a node takes an event: node, switch and places before and after
pub record Stepped (stamp : ℕ) (e : Event) (n n' : Node) (w w' : Meaning) (o o' : Outbox) : Type 0 where
  pub machine : n' ≡ (acts stamp e (opened n w)).machine
  pub switch : w' ≡ (acts stamp e (opened n w)).switch
  pub places : o' ≡ filled (step_answer e n) (setup_of n) (acts stamp e (opened n w)).sent o
  pub fits : Here n' w'
  pub back : SaidBack n' w' (acts stamp e (opened n w)).sent
