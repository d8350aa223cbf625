use Rattle.std.proofs.Common.{length, sym, refl, ap, ◌∙◌}
use Rattle.clash.specs.Clashes.{frame_at, same_number, other_kind}
use Rattle.clash.specs.Places.{last_below}
use Rattle.clash.specs.Sightings.{shown}
use Rattle.clash.proofs.Lasts.{last_found}
use Rattle.clash.proofs.Tests.{other_within}
use Rattle.clash.proofs.history.History.described.Goals as goal

pub other_than-requires : goal.other_than-requires
other_than-requires c i e = last_found (λ k. same_number (shown c.args.s) (frame_at c.args.self.now k)) (length c.args.self.now) i (sym c.previous_of-previous.ensures ∙ e)

pub returns : goal.returns
returns c =
    let es = c.args.self.now in
    let s = shown c.args.s in
    record {
      frame = refl;
      rank = c.rank_of.ensures;
      previous = c.previous_of-previous.ensures;
      other = c.other_than.ensures ∙ ap (last_below (λ k. other_kind s (frame_at es k))) c.previous_of-previous.ensures ∙ sym (other_within es s (length es));
    }
