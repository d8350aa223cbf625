-- What is left of the text gives what the text holds.
use Rattle.std.proofs.Common.{◌≡◌, drop}
use Rattle.hexline.specs.Line.{content_of}
use Rattle.hexline.specs.Meaning.{holds}
use Rattle.hexline.proofs.read_line.Given as goal

abbrev pub invariant-loop-c : goal.invariant-loop-c
invariant-loop-c l = holds l.line (drop l.c-index l.text) ≡ content_of l.text
