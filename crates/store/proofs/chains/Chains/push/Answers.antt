use Rattle.std.proofs.Common.{set, sym, ap, ◌∙◌, subst, inl, inr, arith, length-set}
use Rattle.store.specs.Chains.{Spots, OnceEach, EndAt, lane_at}
use Rattle.store.specs.Spots.{spots}
use Rattle.store.proofs.Standing.{push_once}
use Rattle.store.proofs.Moves.{Way, with_last, len_few, tail_below, push_long, push_after, push_total, push_counted, push_ends_at}
use Rattle.store.proofs.chains.Chains.push.Goals as goal
use Rattle.store.proofs.chains.Chains.push.Goals.{then-len-eq0, else-len-eq0}

pub bounds-self-tail : goal.bounds-self-tail
bounds-self-tail c = tail_below c.args.self.now c.args.list c.requires.0 c.if-len-eq0.false

pub offset_bounds-self-tail : goal.offset_bounds-self-tail
offset_bounds-self-tail c = omega (arith, tail_below c.args.self.now c.args.list c.requires.0 c.if-len-eq0.false)

pub overflow_add-self : goal.overflow_add-self
overflow_add-self c = omega (arith, len_few c.args.self.now c.args.list c.requires.0)

pub invariant_of-self : goal.invariant_of-self
invariant_of-self c =
    let s = c.args.self.now in
    let q = c.args.list in
    let p = c.args.place in
    let ps = c.if-len-eq0.self.1.1.0 in
    let h = c.if-len-eq0.head in
    let way : Way s q p ps h = elim c.if-len-eq0.branch [ then-len-eq0 w ↦ inl (w.if-len-eq0.true, ap (λ x. x.1.1.0) w.self-is, w.head-is) | else-len-eq0 w ↦ inr (w.if-len-eq0.false, ap (λ x. x.1.1.0) w.self-is, w.head-is) ] in
    let after = sym (push_after s q p c.requires.0 c.requires.1 ps h way) in
    record {
      lists = length-set _ _ _ ∙ s.lists;
      sites = push_long s q p c.requires.0 c.requires.1 ps h way;
      once = subst OnceEach after (push_once (spots s) s.once q p c.requires.0 c.requires.1);
      ends = subst (λ (x : Spots). EndAt x (λ j. (lane_at (set s.lanes q (with_last s q h p)) j).tail)) after (push_ends_at s q p c.requires.0 c.requires.1 ps h way);
      all = push_total s q p c.requires.0 c.requires.1 ps h way;
      counted = push_counted s q p c.requires.0 c.requires.1 ps h way;
    }

pub returns : goal.returns
returns c =
    let s = c.args.self.now in
    let q = c.args.list in
    let p = c.args.place in
    let ps = c.if-len-eq0.self.1.1.0 in
    let h = c.if-len-eq0.head in
    let way : Way s q p ps h = elim c.if-len-eq0.branch [ then-len-eq0 w ↦ inl (w.if-len-eq0.true, ap (λ x. x.1.1.0) w.self-is, w.head-is) | else-len-eq0 w ↦ inr (w.if-len-eq0.false, ap (λ x. x.1.1.0) w.self-is, w.head-is) ] in
    push_after s q p c.requires.0 c.requires.1 ps h way
