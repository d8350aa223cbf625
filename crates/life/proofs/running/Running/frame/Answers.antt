use Rattle.life.proofs.Steps.{step}
use Rattle.life.proofs.running.Running.frame.Goals as goal

pub returns : goal.returns
returns g c = record { passes = c.frame.ensures.passes; stepped = step _ _ _ _ _ _ _ _ c.frame.ensures.acted }
