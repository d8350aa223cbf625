use Rattle.std.proofs.Common.{◌∙◌}
use Rattle.store.specs.Laws.{passes}
use Rattle.store.proofs.Calls.{turned, passed, passed_answer}
use Rattle.store.proofs.Reach.{reached_next}
use Rattle.store.proofs.store.Store.pass_on.Goals as goal

pub invariant_of-self : goal.invariant_of-self
invariant_of-self c =
    let s = c.self.inside in
    let whole = c.self.invariant in
    let after = passed s whole c.args.link c.args.direction c.in-Ok.lane c.in-Ok.ensures c.args.frame c.spend.new.chains c.spend.ensures.after in
    record { few = whole.few; long = whole.long; reached = reached_next s whole (passes c.args.frame c.args.link c.args.direction) (turned s c.spend.new.chains s.frames) tt after }

pub returns-in-Ok-clause-answer : goal.returns-in-Ok-clause-answer
returns-in-Ok-clause-answer c = rw (← c.self.view_is) (c.spend.ensures.answer ∙ passed_answer c.self.inside c.self.invariant c.args.link c.args.direction c.in-Ok.lane c.in-Ok.ensures c.args.frame)

pub returns-in-Ok-clause-after : goal.returns-in-Ok-clause-after
returns-in-Ok-clause-after c = rw (← c.self.view_is) (passed c.self.inside c.self.invariant c.args.link c.args.direction c.in-Ok.lane c.in-Ok.ensures c.args.frame c.spend.new.chains c.spend.ensures.after)
