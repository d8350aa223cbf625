-- A step back from a number that is 0 for none, and one more than a place otherwise.
use Rattle.std.proofs.Common.{◌≡◌, ℕ, suc, ◌-◌, ◌≤◌, Some, Option, SomeIff, subst, arith}

pub back_one : (x : ℕ) {i : ℕ} {o : Option ℕ} → SomeIff o (1 ≤ x) (x - 1) → o ≡ Some i → x ≡ suc i
back_one x h e = let p = subst (λ (o : Option ℕ). SomeIff o (1 ≤ x) (x - 1)) e h in omega (arith, p.0, p.1)
