use Rattle.std.proofs.Common.{◌≡◌, take}
use Rattle.measure_switch.specs.Loops.{Run, learned_all}
use Rattle.measure_switch.proofs.learn_all.Given as goal

abbrev pub invariant-loop-octets : goal.invariant-loop-octets
invariant-loop-octets g l =
    ◌≡◌ {A = Run} (record { switch = g.S.Switch.meaning l.switch; sum = l.sum })
    (learned_all g.S.Switch.limit l.port (take l.octets-index l.heard) (record { switch = g.S.Switch.meaning l.initial.switch; sum = l.start }))
