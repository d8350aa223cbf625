use Rattle.std.proofs.Common.{arith}
use Rattle.store.proofs.Holdings.{holdings_held}
use Rattle.store.proofs.chains.Chains.in_hand.Goals as goal

pub returns : goal.returns
returns c = let s = c.args.self.now in omega (arith, s.counted, s.all, holdings_held s)
