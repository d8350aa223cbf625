-- What each call does to the meaning of a switch, and what it answers.
use Rattle.std.specs.Prelude.{ℕ, ◌+◌, Bool, false, cond, List, Some, None, Ok, Err, Option, Result, ◌==◌}
use Rattle.std.specs.Map.{update}
use Rattle.std.specs.Str.{bytes_eq}
use Rattle.refusal.specs.declared.Refusal.{Refusal}
use Rattle.refusal.specs.declared.Refusal.TheVariants.{GroupAddress, TableFull}
use Rattle.switch.specs.declared.port.Port.{Port}
use Rattle.switch.specs.declared.port.Port.TheVariants.{One, Two}
use Rattle.switch.specs.declared.port.PortState.{PortState}
use Rattle.switch.specs.Addresses.{is_group}
use Rattle.switch.specs.Meanings.{Meaning}

-- the port has the state; the other port and all pairs stay
abbrev pub with_port : Port → PortState → Meaning → Meaning
with_port One s m = record { first = s; second = m.second; known = m.known; count = m.count }
with_port Two s m = record { first = m.first; second = s; known = m.known; count = m.count }

-- no pair is left; both ports stay
abbrev pub cleared : Meaning → Meaning
cleared m = record { first = m.first; second = m.second; known = λ _. None; count = 0 }

-- one more is known, unless the address was known before
abbrev pub one_more : Option Port → ℕ → ℕ
one_more None n = n + 1
one_more (Some _) n = n

-- the address stands at the port; all else stays
abbrev pub with_pair : List ℕ → Port → Meaning → Meaning
with_pair a p m = record {
  first = m.first;
  second = m.second;
  known = update bytes_eq m.known a (Some p);
  count = one_more (m.known a) m.count;
}

-- whether k addresses are known and this is none of them
abbrev pub is_full : ℕ → Option Port → ℕ → Bool
is_full k None n = n == k
is_full k (Some _) n = false

-- refused is a group address, then a new address where k are known
abbrev pub learn_answer : ℕ → List ℕ → Meaning → Result (Unit {0}) Refusal
learn_answer k a m = cond (is_group a) (Err GroupAddress) (cond (is_full k (m.known a) m.count) (Err TableFull) (Ok tt))

-- the meaning after learning, refused or not
abbrev pub learned : ℕ → List ℕ → Port → Meaning → Meaning
learned k a p m = cond (is_group a) m (cond (is_full k (m.known a) m.count) m (with_pair a p m))
