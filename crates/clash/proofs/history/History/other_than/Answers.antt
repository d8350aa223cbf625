use Rattle.std.proofs.Common.{◌≡◌, true, eqb, sym, refl, ap, ◌∙◌, rules}
use Rattle.kind.specs.Kinds.{type_of}
use Rattle.clash.specs.Clashes.{frame_at, other_kind}
use Rattle.clash.specs.Places.{last_below}
use Rattle.clash.specs.Sightings.{Seen, shown}
use Rattle.clash.proofs.Backs.{back_one}
use Rattle.clash.proofs.Beside.{noted_at, beside, other_before}
use Rattle.clash.proofs.history.History.other_than.Goals as goal

pub index-requires : goal.index-requires
index-requires c = noted_at c.self.inside.noted c.args.self.now c.in-Some.i c.self.view_is (c.requires c.in-Some.i (back_one c.args.previous c.in-Some.ensures refl)).0

pub returns-then-eq : goal.returns-then-eq
returns-then-eq c =
    let es = c.args.self.now in
    let s = shown c.args.s in
    let i = c.in-Some.i in
    let here = back_one c.args.previous c.in-Some.ensures refl in
    let q = c.requires i here in
    let b = beside c.self.inside.noted.items es i c.index.result.now c.self.view_is c.self.invariant q.0 c.index.ensures in
    let same : eqb (type_of c.args.s.kind) (type_of c.index.result.now.seen.kind) ≡ true = search rules in
    let k = ap (λ (x : Seen). eqb s.kind x.kind) (sym b.frame) ∙ same in
    sym (ap (last_below (λ j. other_kind s (frame_at es j))) here ∙ other_before es s i c.index.result.now b q.1 k)
