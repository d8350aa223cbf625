use Rattle.std.proofs.Common.{◌+◌, cond, length, Some, refl, ap, ◌∙◌, arith}
use Rattle.std.specs.Str.{bytes_eq}
use Rattle.clash.specs.Clashes.{frame_at, same_sender}
use Rattle.clash.specs.Notes.{number_eq, number_of}
use Rattle.clash.specs.Sightings.{shown}
use Rattle.clash.proofs.Beside.{as_many}
use Rattle.clash.proofs.Counts.{count_le}
use Rattle.clash.proofs.Records.{kept_same, kept_push}
use Rattle.clash.proofs.history.History.note.Goals as goal

pub invariant_of-self-in_err-reserve-2 : goal.invariant_of-self-in_err-reserve-2
invariant_of-self-in_err-reserve-2 c = kept_same c.self.invariant refl c.reserve.ensures.entries.2 c.reserve-2.ensures.entries.2

pub invariant_of-self-in_err-push : goal.invariant_of-self-in_err-push
invariant_of-self-in_err-push c = kept_same c.self.invariant c.in_err-push.ensures.items c.reserve.ensures.entries.2 c.reserve-2.ensures.entries.2

pub overflow_add-noted : goal.overflow_add-noted
overflow_add-noted c =
    let es = c.args.self.now in
    let s = shown c.args.s in
    let ns = c.self.inside.noted in
    let few = count_le (λ i. same_sender s (frame_at es i)) (length es) in
    omega (arith, few, c.described-noted.ensures.rank, as_many ns.items es c.self.view_is, ns.ok.0, ns.ok.1, ns.small)

pub invariant_of-self-2 : goal.invariant_of-self-2
invariant_of-self-2 c =
    let s = shown c.args.s in
    kept_push c.args.self.now s c.described-noted.result _ _ c.self.invariant c.self.view_is c.described-noted.ensures c.in_ok-push.ensures.items refl (omega (arith, c.len.ensures, c.in_ok-push.ensures.len, c.self.inside.noted.ok.0))
    (λ k. c.in_ok-insert.ensures.updates.0 k ∙ ap (cond (bytes_eq s.sender k) (Some (c.described-noted.result.rank + 1))) (c.reserve.ensures.entries.2 k))
    (λ k. c.in_ok-insert-2.ensures.updates.0 k ∙ ap (cond (number_eq (number_of s) k) (Some c.len.result)) (c.reserve-2.ensures.entries.2 k))
