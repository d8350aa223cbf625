use Rattle.std.proofs.Common.{sym, refl, subst, arith}
use Rattle.store.specs.Chains.{Spots, OnceEach, EndAt, no_spot, lane_at}
use Rattle.store.proofs.Start.{Up, first_lanes, start_once, start_after, start_ends, start_held}
use Rattle.store.proofs.chains.Chains.new.Goals as goal

pub invariant_of-result : goal.invariant_of-result
invariant_of-result c =
    let made = c.from_fn-places.ensures.items in
    let up : Up c.from_fn-places.result = λ i l. (made.at i no_spot l).2.met in
    let after = sym (start_after c.from_fn-places.result made.long up) in
    let held = start_held c.from_fn-places.result made.long up in
    record {
      lists = refl;
      sites = made.long;
      once = subst OnceEach after start_once;
      ends = subst (λ (x : Spots). EndAt x (λ j. (lane_at first_lanes j).tail)) after (start_ends c.from_fn-places.result made.long up);
      all = omega (arith, held);
      counted = omega (arith, held);
    }

pub returns : goal.returns
returns c =
    let made = c.from_fn-places.ensures.items in
    start_after c.from_fn-places.result made.long (λ i l. (made.at i no_spot l).2.met)
