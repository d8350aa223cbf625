use Rattle.std.proofs.Common.{get_or, sym, ap, ◌∙◌, arith}
use Rattle.std.proofs.lemmas.Bool.Decides.{nat_tests}
use Rattle.store.specs.Chains.{Spots}
use Rattle.store.specs.Contents.{no_frame}
use Rattle.store.proofs.Calls.{turned, put_lost, put_waits, first_below, first_held, lane_below}
use Rattle.store.proofs.Reach.{reached_put}
use Rattle.store.proofs.store.Store.put.Goals as goal

pub invariant_of-self : goal.invariant_of-self
invariant_of-self c =
    let s = c.self.inside in
    let whole = c.self.invariant in
    let after = put_lost s whole c.args.link c.args.direction c.in_ok-lane.lane c.in_ok-lane.ensures c.args.octets.now (sym c.if-is_wrong_length.ensures) c.pop.new.self c.in_default.ensures.answer c.in_default.ensures.after in
    record { few = whole.few; long = whole.long; reached = reached_put s whole c.args.link c.args.direction c.args.octets.now (turned s c.pop.new.self s.frames) after }

pub returns-in_default-clause-after : goal.returns-in_default-clause-after
returns-in_default-clause-after c = rw (← c.self.view_is) (put_lost c.self.inside c.self.invariant c.args.link c.args.direction c.in_ok-lane.lane c.in_ok-lane.ensures c.args.octets.now (sym c.if-is_wrong_length.ensures) c.pop.new.self c.in_default.ensures.answer c.in_default.ensures.after)

pub fill_at-requires : goal.fill_at-requires
fill_at-requires c = let good = c.if-is_wrong_length.ensures in (first_below c.self.inside c.self.invariant 0 c.in-Some.free c.in-Some.ensures.answer (omega arith), grind (arith, nat_tests))

pub push-requires : goal.push-requires
push-requires c =
    let s = c.self.inside in (
      lane_below s c.self.invariant c.args.link c.args.direction c.in_ok-lane.lane c.in_ok-lane.ensures,
      ap (λ (x : Spots). x.hand c.in-Some.free) c.in-Some.ensures.after ∙ first_held s c.self.invariant 0 c.in-Some.free c.in-Some.ensures.answer,
    )

pub invariant_of-self-2 : goal.invariant_of-self-2
invariant_of-self-2 c =
    let s = c.self.inside in
    let whole = c.self.invariant in
    let after = put_waits s whole c.args.link c.args.direction c.in_ok-lane.lane c.in_ok-lane.ensures c.args.octets.now (sym c.if-is_wrong_length.ensures) c.pop.new.self c.push.new.self c.in-Some.free c.fill_at.new.frames (get_or c.fill_at.new.frames c.in-Some.free no_frame) c.in-Some.ensures.answer c.in-Some.ensures.after c.push.ensures c.fill_at.ensures.0 c.fill_at.ensures.1 in
    record { few = whole.few; long = c.fill_at.auto.frames ∙ whole.long; reached = reached_put s whole c.args.link c.args.direction c.args.octets.now (turned s c.push.new.self c.fill_at.new.frames) after }

pub returns-clause-after : goal.returns-clause-after
returns-clause-after c = rw (← c.self.view_is) (put_waits c.self.inside c.self.invariant c.args.link c.args.direction c.in_ok-lane.lane c.in_ok-lane.ensures c.args.octets.now (sym c.if-is_wrong_length.ensures) c.pop.new.self c.push.new.self c.in-Some.free c.fill_at.new.frames (get_or c.fill_at.new.frames c.in-Some.free no_frame) c.in-Some.ensures.answer c.in-Some.ensures.after c.push.ensures c.fill_at.ensures.0 c.fill_at.ensures.1)
