use Rattle.std.proofs.Common.{◌≡◌, ap, ◌∙◌, sym, arith}
use Rattle.std.proofs.lemmas.Bool.Decides.{nat_tests}
use Rattle.store.specs.Laws.{in_hands}
use Rattle.store.specs.Model.{Model}
use Rattle.store.proofs.Calls.{hands_held}
use Rattle.store.proofs.store.Store.anything_waits.Goals as goal

pub overflow_add-result : goal.overflow_add-result
overflow_add-result c =
    let same : c.in_hand.result ≡ in_hands c.args.self.now = c.in_hand.ensures ∙ sym (hands_held c.self.inside c.self.invariant) ∙ ap (λ (m : Model). in_hands m) c.self.view_is in
    omega (arith, same, c.free.ensures.rest)

pub returns : goal.returns
returns c =
    let same : c.in_hand.result ≡ in_hands c.args.self.now = c.in_hand.ensures ∙ sym (hands_held c.self.inside c.self.invariant) ∙ ap (λ (m : Model). in_hands m) c.self.view_is in
    let rest = c.free.ensures.rest in
    grind (arith, nat_tests)
