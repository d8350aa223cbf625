use Rattle.switch.proofs.Counting.{within_room, same_answers}
use Rattle.switch.proofs.switching.Switch.room.Goals as goal

pub returns-clause-within : goal.returns-clause-within
returns-clause-within g c = rw c.capacity.ensures (within_room _ _ (g.met.Self.Switch.sound c.args.self.now))

pub returns-clause-alike : goal.returns-clause-alike
returns-clause-alike g c = same_answers
