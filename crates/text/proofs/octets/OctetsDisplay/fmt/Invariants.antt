-- What is written is the text of the octets so far.
use Rattle.std.proofs.Common.{◌∷◌, get_or, take}
use Rattle.std.specs.Fmt.{HasWritten, IsPlainFormatter}
use Rattle.text.specs.Text.{octets_text}
use Rattle.text.proofs.octets.OctetsDisplay.fmt.Given as goal

abbrev pub invariant-loop-octet : goal.invariant-loop-octet
invariant-loop-octet g l =
    IsPlainFormatter l.fn.f → HasWritten g.W.Write.write_str_gives l.fn.f (octets_text (get_or l.self.0.now 0 0 ∷ take l.octet-index l.rest)) l.f
