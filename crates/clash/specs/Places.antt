-- The last place at which a test holds.
use Rattle.std.specs.Prelude.{ℕ, zero, suc, Bool, cond, Some, None, Option}

-- one more than the last place below m at which p holds, and 0 where there is none
abbrev pub last_below : (ℕ → Bool) → ℕ → ℕ
last_below p zero = 0
last_below p (suc m) = cond (p m) (suc m) (last_below p m)

-- what a map keeps of such a number: no entry for 0
abbrev pub entry : ℕ → Option ℕ
entry zero = None
entry (suc i) = Some (suc i)
