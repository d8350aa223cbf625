use Rattle.std.proofs.Common.{Ok, ap, ◌∙◌}
use Rattle.std.proofs.lemmas.List.{get_or_default}
use Rattle.store.specs.Contents.{contents}
use Rattle.store.specs.declared.frame.Frame.{Frame}
use Rattle.store.proofs.Calls.{octets_refused, octets_found, place_below}
use Rattle.store.proofs.store.Store.octets.Goals as goal

pub returns-then-not-holds : goal.returns-then-not-holds
returns-then-not-holds c = rw (← c.self.view_is) (octets_refused c.self.inside c.self.invariant c.args.frame.now c.if-not-holds.ensures)

pub returns : goal.returns
returns c =
    let s = c.self.inside in
    let at = get_or_default s.frames c.args.frame.now.place _ _ (place_below s c.self.invariant c.args.frame.now c.if-not-holds.ensures) in
    rw (← c.self.view_is) (ap Ok (c.octets.ensures ∙ ap (λ (f : Frame). contents f) at) ∙ octets_found s c.self.invariant c.args.frame.now c.if-not-holds.ensures)
