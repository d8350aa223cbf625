use Rattle.store.specs.Laws.{takes}
use Rattle.store.proofs.Calls.{turned, first_in_hand, taken, taken_none, taken_token}
use Rattle.store.proofs.Reach.{reached_next}
use Rattle.store.proofs.store.Store.take.Goals as goal

pub invariant_of-self : goal.invariant_of-self
invariant_of-self c =
    let s = c.self.inside in
    let whole = c.self.invariant in
    let after = taken s whole c.args.link c.args.direction c.in_ok-lane.lane c.in_ok-lane.ensures c.pop.new.self c.pop.ensures.after in
    record { few = whole.few; long = whole.long; reached = reached_next s whole (takes c.args.link c.args.direction) (turned s c.pop.new.self s.frames) tt after }

pub returns-in_default-clause-answer : goal.returns-in_default-clause-answer
returns-in_default-clause-answer c = rw (← c.self.view_is) (taken_none c.self.inside c.self.invariant c.args.link c.args.direction c.in_ok-lane.lane c.in_ok-lane.ensures c.in_default.ensures.answer)

pub returns-in_default-clause-after : goal.returns-in_default-clause-after
returns-in_default-clause-after c = rw (← c.self.view_is) (taken c.self.inside c.self.invariant c.args.link c.args.direction c.in_ok-lane.lane c.in_ok-lane.ensures c.pop.new.self c.pop.ensures.after)

pub invariant_of-self-2 : goal.invariant_of-self-2
invariant_of-self-2 c =
    let s = c.self.inside in
    let whole = c.self.invariant in
    let after = taken s whole c.args.link c.args.direction c.in_ok-lane.lane c.in_ok-lane.ensures c.pop.new.self c.pop.ensures.after in
    record { few = whole.few; long = whole.long; reached = reached_next s whole (takes c.args.link c.args.direction) (turned s c.pop.new.self s.frames) tt after }

pub returns-clause-answer : goal.returns-clause-answer
returns-clause-answer c = rw (← c.self.view_is) (taken_token c.self.inside c.self.invariant c.args.link c.args.direction c.in_ok-lane.lane c.in_ok-lane.ensures c.in-Some.place c.in-Some.ensures.answer)

pub returns-clause-after : goal.returns-clause-after
returns-clause-after c = rw (← c.self.view_is) (taken c.self.inside c.self.invariant c.args.link c.args.direction c.in_ok-lane.lane c.in_ok-lane.ensures c.pop.new.self c.pop.ensures.after)

pub returns-clause-held : goal.returns-clause-held
returns-clause-held c = first_in_hand c.self.inside c.self.invariant c.in_ok-lane.lane c.in-Some.place c.in-Some.ensures.answer c.pop.new.self c.pop.ensures.after
