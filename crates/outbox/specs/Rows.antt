-- A node in the middle of a row of its table, and the actions that a client and a manager share.
use Rattle.std.specs.Prelude.{◌≡◌, List, [], Ok, Err, Result}
use Rattle.refusal.specs.declared.Refusal.{Refusal}
use Rattle.switch.specs.declared.port.Port.{Port}
use Rattle.switch.specs.declared.port.Port.TheVariants.{One, Two}
use Rattle.switch.specs.declared.port.PortState.{PortState}
use Rattle.switch.specs.declared.port.PortState.TheVariants.{Blocked}
use Rattle.switch.specs.Meanings.{Meaning}
use Rattle.switch.specs.Calls.{with_port, cleared}
use Rattle.settings.specs.Setups.{Setup}
use Rattle.outbox.specs.declared.places.Outbox.{Outbox}
use Rattle.outbox.specs.Boxes.{Sent, emptied, pushed_all}

-- its machine M, its switch, and what it has sent in this row
pub record Row (M : Type 0) : Type 0 where
  pub machine : M
  pub switch : Meaning
  pub sent : List Sent

-- one action after another
infixl 10 ◌▷◌
abbrev pub ◌▷◌ : {A B : Type 0} → A → (A → B) → B
x ▷ f = f x

-- the machine changes
abbrev pub its : {M : Type 0} → (M → M) → Row M → Row M
its f r = record { machine = f r.machine; switch = r.switch; sent = r.sent }

-- a port is set
abbrev pub sets : {M : Type 0} → Port → PortState → Row M → Row M
sets p x r = record { machine = r.machine; switch = with_port p x r.switch; sent = r.sent }

-- the pairs are cleared
abbrev pub clears : {M : Type 0} → Row M → Row M
clears r = record { machine = r.machine; switch = cleared r.switch; sent = r.sent }

-- starting sets both ports BLOCKED and clears all pairs
abbrev pub quiet : Meaning → Meaning
quiet w = cleared (with_port Two Blocked (with_port One Blocked w))

-- before a row nothing is sent
abbrev pub opened : {M : Type 0} → M → Meaning → Row M
opened m w = record { machine = m; switch = w; sent = [] }

-- the places as a row finds them: none taken; a refused event leaves them as they are
abbrev pub begun : Result (Unit {0}) Refusal → Outbox → Outbox
begun (Ok x) o = emptied o
begun (Err e) o = o

-- a row was acted: machine, switch and places before and after, u being the node's settings
pub record Acted {M : Type 0} (f : Row M → Row M) (u : Setup) (m m' : M) (w w' : Meaning) (o o' : Outbox) : Type 0 where
  pub machine : m' ≡ (f (opened m w)).machine
  pub switch : w' ≡ (f (opened m w)).switch
  pub sends : o' ≡ pushed_all u (f (opened m w)).sent o
