-- A loop over octets that are zero so far.
use Rattle.std.proofs.Common.{◌≡◌, ℕ, ◌+◌, ◌<◌, ◌≤◌, true, false, List, length, get_or, drop, sym, refl}
use Rattle.std.proofs.lemmas.List.{drop_more, at_drop_all}
use Rattle.std.proofs.lemmas.Bool.{ne_eqb, eq-eqb}
use Rattle.layout.specs.Reading.{all_zero}

pub zero_stop : (xs : List ℕ) (i : ℕ) → i < length xs → (get_or xs i 0 ≡ 0 → ⊥) → false ≡ all_zero (drop i xs)
zero_stop xs i h n = rw (drop_more xs i 0) (rw (ne_eqb (get_or xs i 0) 0 n) refl)

pub zero_more : (xs : List ℕ) (i : ℕ) → i < length xs → get_or xs i 0 ≡ 0 → all_zero (drop (i + 1) xs) ≡ all_zero (drop i xs)
zero_more xs i h n = rw (drop_more xs i 0) (rw (eq-eqb (get_or xs i 0) 0 n) refl)

pub zero_all : (xs : List ℕ) (i : ℕ) → length xs ≤ i → true ≡ all_zero (drop i xs)
zero_all xs i h = sym (at_drop_all all_zero xs i h)
