use Rattle.life.proofs.Steps.{step}
use Rattle.life.proofs.running.Running.link.Goals as goal

pub returns : goal.returns
returns g c = step _ _ _ _ _ _ _ _ c.link.ensures
