-- The count of the places in hand, as the array has them.
use Rattle.std.proofs.Common.{◌≡◌, ℕ, zero, suc, ◌+◌, List, [], ◌∷◌, length, refl, subst, arith}
use Rattle.std.proofs.lemmas.List.Sums.{sum_by-cons}
use Rattle.store.specs.declared.chains.Spot.{Spot}
use Rattle.store.specs.Chains.{holdings, held_in, spot_at}
use Rattle.store.specs.Counting.{sum_to, one}
use Rattle.store.specs.Spots.{spots}
use Rattle.store.specs.declared.chains.Chains.{Chains}

sum_first : (n : ℕ) (f : ℕ → ℕ) → sum_to (suc n) f ≡ f 0 + sum_to n (λ i. f (suc i))
sum_first zero f = refl
sum_first (suc n) f = omega (arith, sum_first n f)

sum_held : (xs : List Spot) → sum_to (length xs) (λ p. one (spot_at xs p).held) ≡ held_in xs
sum_held [] = refl
sum_held (x ∷ xs) = omega (arith, sum_first (length xs) (λ p. one (spot_at (x ∷ xs) p).held), sum_held xs, sum_by-cons (λ (y : Spot). one y.held) x xs)

pub holdings_held : (c : Chains) → holdings (spots c) ≡ held_in c.places
unfolding holdings
holdings_held c = subst (λ n. sum_to n (λ p. one (spot_at c.places p).held) ≡ held_in c.places) c.sites (sum_held c.places)
