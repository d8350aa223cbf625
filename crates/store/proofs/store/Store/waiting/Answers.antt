use Rattle.std.proofs.Common.{Ok, ap, ◌∙◌}
use Rattle.store.proofs.Calls.{waiting_there}
use Rattle.store.proofs.store.Store.waiting.Goals as goal

pub returns : goal.returns
returns c = rw (← c.self.view_is) (ap Ok c.len.ensures ∙ waiting_there c.self.inside c.self.invariant c.args.link c.args.direction c.in_ok-lane.lane c.in_ok-lane.ensures)
