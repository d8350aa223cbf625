-- The fields that have few values: the number of each value, and what a number is read as.
use Rattle.std.specs.Prelude.{◌≡◌, ℕ, Bool, true, false, cond, ◌==◌, Ok, Err, Result}
use Rattle.refusal.specs.declared.Refusal.{Refusal}
use Rattle.refusal.specs.declared.Refusal.TheVariants.{FieldValue}
use Rattle.frame.specs.declared.field.PortRole.{PortRole}
use Rattle.frame.specs.declared.field.PortRole.TheVariants.{Primary, Secondary}
use Rattle.frame.specs.declared.field.RingState.{RingState}
use Rattle.frame.specs.declared.field.RingState.TheVariants.{Open, Closed}

abbrev pub role_number : PortRole → ℕ
role_number Primary = 0
role_number Secondary = 1

abbrev pub state_number : RingState → ℕ
state_number Open = 0
state_number Closed = 1

-- 1 where the client can block
abbrev pub blocked_number : Bool → ℕ
blocked_number b = cond b 1 0

module _ {X : Type 0} where
  -- a field that fits where the test holds, and P is true of its value then; else the frame is refused for the field
  abbrev pub Fits : Result X Refusal → Bool → (X → Type 0) → Type 0
  Fits (Ok x) b P = (b ≡ true) × P x
  Fits (Err e) b P = (b ≡ false) × (e ≡ FieldValue)

  -- of two values, the one that stands as the number
  abbrev pub value_of_two : ℕ → X → X → X
  value_of_two n zero one = cond (n == 0) zero one
