use Rattle.std.proofs.Common.{◌≡◌}
use Rattle.std.specs.Fn.{iterate}
use Rattle.measure_switch.specs.Loops.{looked_up}
use Rattle.measure_switch.proofs.look_up_rounds.Given as goal

abbrev pub invariant-loop-round : goal.invariant-loop-round
invariant-loop-round g l = l.sum ≡ iterate (looked_up (g.S.Switch.meaning l.switch) l.asked) l.round 0
