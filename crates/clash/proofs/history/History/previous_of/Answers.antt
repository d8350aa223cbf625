use Rattle.std.proofs.Common.{arith}
use Rattle.std.proofs.lemmas.Grind.{common_steps}
use Rattle.clash.proofs.Records.{latest_count_at}
use Rattle.clash.proofs.history.History.previous_of.Goals as goal

pub returns : goal.returns
returns c =
    let found = latest_count_at c.args.self.now c.self.invariant c.self.view_is (c.args.s.sequence, c.args.s.sender) in
    grind (arith, common_steps, found)
