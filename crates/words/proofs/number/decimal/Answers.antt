use Rattle.std.proofs.Common.{◌≡◌, ◌+◌, ◌*◌, ◌∙◌, arith}
use Rattle.words.specs.Numbers.{capped}
use Rattle.words.proofs.Steps.{digit_on}
use Rattle.words.proofs.number.decimal.Goals as goal

pub loop-c-preserved : goal.loop-c-preserved
loop-c-preserved c =
    let read = c.in_ok-digit.ensures.value in
    let value : c.saturating_add-value.result ≡ capped (10 * c.loop-c.value + c.in_ok-digit.digit) = omega arith in
    (digit_on _ _ c.loop-c.value c.in_ok-digit.digit _ c.loop-c-test.true (omega (arith, rw c.from.ensures at read.0)) (rw c.from.ensures at read.1) value ∙ c.loop-c.invariant.0, omega (arith, value))
