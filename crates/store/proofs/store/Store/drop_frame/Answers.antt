use Rattle.std.proofs.Common.{◌∙◌}
use Rattle.store.specs.Laws.{spends}
use Rattle.store.proofs.Calls.{turned, spent, spent_answer}
use Rattle.store.proofs.Reach.{reached_next}
use Rattle.store.proofs.store.Store.drop_frame.Goals as goal

pub invariant_of-self : goal.invariant_of-self
invariant_of-self c =
    let s = c.self.inside in
    let whole = c.self.invariant in
    let after = spent s whole c.args.frame c.spend.new.chains c.spend.ensures.after in
    record { few = whole.few; long = whole.long; reached = reached_next s whole (spends c.args.frame) (turned s c.spend.new.chains s.frames) tt after }

pub returns-clause-answer : goal.returns-clause-answer
returns-clause-answer c = rw (← c.self.view_is) (c.spend.ensures.answer ∙ spent_answer c.self.inside c.self.invariant c.args.frame)

pub returns-clause-after : goal.returns-clause-after
returns-clause-after c = rw (← c.self.view_is) (spent c.self.inside c.self.invariant c.args.frame c.spend.new.chains c.spend.ensures.after)
