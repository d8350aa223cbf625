-- What becomes of a line, by its characters.
use Rattle.std.specs.Prelude.{ℕ, List, [], ◌∷◌, Some, None, Option}
use Rattle.hexline.specs.Line.{octets_of}
use Rattle.layout.specs.Reading.{Reading, reading}
use Rattle.frame.specs.Shown.{outcome}
use Rattle.dump.specs.declared.verdict.Verdict as code
use Rattle.dump.specs.declared.verdict.Verdict.TheVariants.{Blank, NotOctets, Read}

pub data Verdict : Type 0 where
  blank : Verdict
  not_octets : Verdict
  read : Reading → Verdict

-- by the octets of the line, all of them
abbrev pub octets_verdict : Option (List ℕ) → Verdict
octets_verdict None = not_octets
octets_verdict (Some []) = blank
octets_verdict (Some (o ∷ more)) = read (reading (o ∷ more))

abbrev pub line_verdict : List ℕ → Verdict
line_verdict characters = octets_verdict (octets_of characters)

-- what the code's verdicts stand for
abbrev pub verdict_shown : code.Verdict → Verdict
verdict_shown Blank = blank
verdict_shown NotOctets = not_octets
verdict_shown (Read result) = read (outcome result)
