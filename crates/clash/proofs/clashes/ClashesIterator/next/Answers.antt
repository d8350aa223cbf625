use Rattle.std.proofs.Common.{length, refl, ap, ◌∙◌, arith}
use Rattle.clash.specs.Clashes.{partners}
use Rattle.clash.proofs.Backs.{back_one}
use Rattle.clash.proofs.Beside.{noted_at}
use Rattle.clash.proofs.Trails.{turn, ranks_ordered, none_past, previous_found, goes_on, one_more}
use Rattle.clash.proofs.clashes.ClashesIterator.next.Goals as goal

pub index-requires : goal.index-requires
index-requires c =
    let s = c.args.self.now in
    noted_at c.history.inside.noted s.history.now s.place c.history.view_is (s.trail c.in_ok-i.i (back_one s.at c.checked_sub.ensures c.in_ok-i.was)).1

pub index-requires-2 : goal.index-requires-2
index-requires-2 c =
    let s = c.args.self.now in
    let t = s.trail c.in_ok-i.i (back_one s.at c.checked_sub.ensures c.in_ok-i.was) in
    noted_at c.history.inside.noted s.history.now c.in_ok-i.i c.history.view_is (omega (arith, t.0, t.1))

pub is_past-requires : goal.is_past-requires
is_past-requires c = ranks_ordered (turn c.history.inside.noted.items c.history.view_is c.history.invariant c.args.self.now.trail (back_one c.args.self.now.at c.checked_sub.ensures c.in_ok-i.was) c.index.ensures c.index-2.ensures)

pub returns-then-is_past-clause-steps : goal.returns-then-is_past-clause-steps
returns-then-is_past-clause-steps c =
    let s = c.args.self.now in
    let t = turn c.history.inside.noted.items c.history.view_is c.history.invariant s.trail (back_one s.at c.checked_sub.ensures c.in_ok-i.was) c.index.ensures c.index-2.ensures in
    (ap (partners s.history.now s.place) (back_one s.at c.checked_sub.ensures c.in_ok-i.was) ∙ none_past t c.if-is_past.ensures, refl)

pub other_than-self-requires : goal.other_than-self-requires
other_than-self-requires c = previous_found (turn c.history.inside.noted.items c.history.view_is c.history.invariant c.args.self.now.trail (back_one c.args.self.now.at c.checked_sub.ensures c.in_ok-i.was) c.index.ensures c.index-2.ensures)

pub invariant_of-self-2 : goal.invariant_of-self-2
invariant_of-self-2 c =
    let t = turn c.history.inside.noted.items c.history.view_is c.history.invariant c.args.self.now.trail (back_one c.args.self.now.at c.checked_sub.ensures c.in_ok-i.was) c.index.ensures c.index-2.ensures in
    record { trail = goes_on t c.other_than-self.result c.other_than-self.ensures }

pub returns-clause-steps : goal.returns-clause-steps
returns-clause-steps c =
    let s = c.args.self.now in
    let t = turn c.history.inside.noted.items c.history.view_is c.history.invariant s.trail (back_one s.at c.checked_sub.ensures c.in_ok-i.was) c.index.ensures c.index-2.ensures in
    ap (partners s.history.now s.place) (back_one s.at c.checked_sub.ensures c.in_ok-i.was) ∙ one_more t c.other_than-self.result c.other_than-self.ensures c.if-is_past.ensures

pub returns-clause-goes : goal.returns-clause-goes
returns-clause-goes c =
    let shorter = ap length (returns-clause-steps c) in
    record { on = λ f. (tt, tt, omega (arith, shorter)); keeps = tt; rests = λ f. tt }
