use Rattle.std.proofs.Common.{◌≡◌}
use Rattle.std.specs.Fn.{iterate}
use Rattle.measure_switch.specs.Loops.{Run, both_ways}
use Rattle.measure_switch.proofs.learn_rounds.Given as goal

abbrev pub invariant-loop-round : goal.invariant-loop-round
invariant-loop-round g l =
    ◌≡◌ {A = Run} (record { switch = g.S.Switch.meaning l.switch; sum = l.sum })
    (iterate (both_ways g.S.Switch.limit l.heard) l.round (record { switch = g.S.Switch.meaning l.initial.switch; sum = 0 }))
