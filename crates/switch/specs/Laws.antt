-- What the calls on a switch mean in plain words, for every kind.
use Rattle.std.specs.Prelude.{◌≡◌, ℕ, ◌≤◌, true, false, List, length, Some, None, Ok, Err, Result, is_some}
use Rattle.std.specs.List.{IsDistinct}
use Rattle.std.specs.Set.{is_member}
use Rattle.std.specs.Str.{bytes_eq}
use Rattle.refusal.specs.declared.Refusal.{Refusal}
use Rattle.switch.specs.declared.port.Port.{Port}
use Rattle.switch.specs.Addresses.{is_address}
use Rattle.switch.specs.Meanings.{Meaning, Sound, state_at}

-- both ports are as before
abbrev pub SamePorts : Meaning → Meaning → Type 0
SamePorts m n = (p : Port) → state_at p n ≡ state_at p m

-- after learning the address is found at that port, every other address and both ports are as before;
-- after a refusal everything is as before
abbrev pub Found : List ℕ → Port → Meaning → Meaning → Result (Unit {0}) Refusal → Type 0
Found a p m n (Ok _) = (n.known a ≡ Some p) × ((b : List ℕ) → bytes_eq b a ≡ false → n.known b ≡ m.known b) × SamePorts m n
Found a p m n (Err _) = n ≡ m

-- after a clear nothing is found, and both ports are as before
abbrev pub Gone : Meaning → Meaning → Type 0
Gone m n = ((a : List ℕ) → n.known a ≡ None) × SamePorts m n

-- never are more than k addresses known: a list of different ones, all of them known, has no more than k
abbrev pub WithinRoom : ℕ → Meaning → Type 0
WithinRoom k m = (xs : List (List ℕ)) → IsDistinct bytes_eq xs → ((a : List ℕ) → is_member bytes_eq xs a ≡ true → is_some (m.known a) ≡ true) → length xs ≤ k

-- two switches that answer alike for every port and every address have equal meanings, of whatever kinds they are
abbrev pub SameAnswers : Type 0
SameAnswers = (j k : ℕ) (m n : Meaning) → Sound j m → Sound k n → SamePorts m n → ((a : List ℕ) → is_address a ≡ true → n.known a ≡ m.known a) → m ≡ n
