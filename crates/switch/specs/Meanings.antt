-- The meaning of a switch, to which every kind is held: two switches with the same content have equal meanings.
use Rattle.std.specs.Prelude.{◌≡◌, ℕ, ◌≤◌, false, List, length, None, Option, is_some}
use Rattle.std.specs.List.{IsDistinct}
use Rattle.std.specs.Set.{is_member}
use Rattle.std.specs.Str.{bytes_eq}
use Rattle.switch.specs.declared.port.Port.{Port}
use Rattle.switch.specs.declared.port.Port.TheVariants.{One, Two}
use Rattle.switch.specs.declared.port.PortState.{PortState}
use Rattle.switch.specs.declared.port.PortState.TheVariants.{Blocked}
use Rattle.switch.specs.Addresses.{is_address}

-- the states of the ports 1 and 2, the port of each address that is known, and how many are known
pub record Meaning : Type 0 where
  pub first : PortState
  pub second : PortState
  pub known : List ℕ → Option Port
  pub count : ℕ

abbrev pub state_at : Port → Meaning → PortState
state_at One m = m.first
state_at Two m = m.second

-- a new switch: both ports BLOCKED, nothing known
abbrev pub fresh : Meaning
fresh = record { first = Blocked; second = Blocked; known = λ _. None; count = 0 }

-- xs lists every known address once: what ties the count to the addresses
pub record Counted (m : Meaning) (xs : List (List ℕ)) : Type 0 where
  pub once : IsDistinct bytes_eq xs
  pub many : length xs ≡ m.count
  pub all : (a : List ℕ) → is_some (m.known a) ≡ is_member bytes_eq xs a

-- what every kind owes: at most k addresses are known, each is six octets, and there is a list of them
pub record Sound (k : ℕ) (m : Meaning) : Type 0 where
  pub few : m.count ≤ k
  pub real : (a : List ℕ) → is_address a ≡ false → m.known a ≡ None
  pub listed : ∥ ((xs : List (List ℕ)) × Counted m xs) ∥₁
