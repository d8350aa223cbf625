use Rattle.std.proofs.Common.{◌≡◌, drop}
use Rattle.layout.specs.Reading.{all_zero}
use Rattle.frame.proofs.zero_from.Given as goal

abbrev pub invariant-loop-octet : goal.invariant-loop-octet
invariant-loop-octet l = all_zero (drop l.octet-index l.octet-items) ≡ all_zero l.octet-items
