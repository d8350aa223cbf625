-- One round more.
use Rattle.std.proofs.Common.{◌≡◌, ℕ, zero, suc, ◌+◌, refl, arith}
use Rattle.std.specs.Fn.{iterate}

iterate_last : {A : Type 0} (f : A → A) (n : ℕ) (x : A) → iterate f n (f x) ≡ f (iterate f n x)
iterate_last f zero x = refl
iterate_last f (suc n) x = iterate_last f n (f x)

pub iterate_more : {A : Type 0} (f : A → A) (n : ℕ) (x : A) → iterate f (n + 1) x ≡ f (iterate f n x)
iterate_more f n x = let more : n + 1 ≡ suc n = omega arith in rw more (iterate_last f n x)
