use Rattle.life.proofs.Steps.{step}
use Rattle.life.proofs.running.Running.expire.Goals as goal

pub returns : goal.returns
returns g c = record { answer = c.expire.ensures.answer; stepped = step _ _ _ _ _ _ _ _ c.expire.ensures.acted }
