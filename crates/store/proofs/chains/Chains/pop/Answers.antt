use Rattle.std.proofs.Common.{set, sym, ◌∙◌, subst, arith, length-set}
use Rattle.store.specs.Chains.{Spots, OnceEach, EndAt, lane_at}
use Rattle.store.specs.Spots.{spots}
use Rattle.store.proofs.Standing.{pop_once}
use Rattle.store.proofs.Moves.{head_below, without_first, pop_first, pop_after, pop_total, pop_counted, pop_ends_at}
use Rattle.store.proofs.chains.Chains.pop.Goals as goal

pub bounds-self-head : goal.bounds-self-head
bounds-self-head c = head_below c.args.self.now c.args.list c.requires c.if-len-eq0.false

pub bounds-self-head-2 : goal.bounds-self-head-2
bounds-self-head-2 c = head_below c.args.self.now c.args.list c.requires c.if-len-eq0.false

pub offset_bounds-self-head : goal.offset_bounds-self-head
offset_bounds-self-head c = omega (arith, head_below c.args.self.now c.args.list c.requires c.if-len-eq0.false)

pub offset_bounds-self-head-2 : goal.offset_bounds-self-head-2
offset_bounds-self-head-2 c = omega (arith, head_below c.args.self.now c.args.list c.requires c.if-len-eq0.false)

pub invariant_of-self : goal.invariant_of-self
invariant_of-self c =
    let s = c.args.self.now in
    let q = c.args.list in
    let ne = c.if-len-eq0.false in
    let after = sym (pop_after s q c.requires ne) in
    record {
      lists = length-set _ _ _ ∙ s.lists;
      sites = length-set _ _ _ ∙ s.sites;
      once = subst OnceEach after (pop_once (spots s) s.once q c.requires);
      ends = subst (λ (x : Spots). EndAt x (λ j. (lane_at (set s.lanes q (without_first s q)) j).tail)) after (pop_ends_at s q c.requires ne);
      all = pop_total s q c.requires ne;
      counted = pop_counted s q c.requires ne;
    }

pub returns-clause-answer : goal.returns-clause-answer
returns-clause-answer c = pop_first c.args.self.now c.args.list c.requires c.if-len-eq0.false

pub returns-clause-after : goal.returns-clause-after
returns-clause-after c = pop_after c.args.self.now c.args.list c.requires c.if-len-eq0.false
