-- The octets that are kept of a line are read as all of them are.
use Rattle.std.proofs.Common.{◌≡◌, ℕ, ◌<◌, ◌≤◌, List, [], ◌∷◌, length, take, Some, None, Option, sym, refl, ap, ◌∙◌, inl, inr, arith}
use Rattle.std.proofs.lemmas.List.{take_all, length-take-le}
use Rattle.std.proofs.lemmas.Bool.{cases_lt}
use Rattle.std.proofs.lemmas.Bool.Decides.{nat_tests}
use Rattle.hexline.specs.Line.{Content, blank, octets, not_hex, content, content_of, octets_of}
use Rattle.layout.specs.Reading.{reading, refused}
use Rattle.dump.specs.Lines as lines
use Rattle.dump.specs.Lines.{Verdict, not_octets, read, octets_verdict, line_verdict}

-- more than 60 octets are refused as 1, whatever they are
too_long : (xs : List ℕ) → 60 < length xs → reading xs ≡ refused 1
too_long xs h = grind (arith, nat_tests)

pub kept : (xs : List ℕ) → reading (take 61 xs) ≡ reading xs
kept xs = elim (cases_lt 60 (length xs)) [
  | inl h ↦ (
      let l : 61 ≤ length xs = omega arith in
      let n = length-take-le 61 xs l in
      too_long (take 61 xs) (omega arith) ∙ sym (too_long xs h)
      )
  | inr h ↦ ap reading (take_all 61 xs (omega arith))
]

-- the verdict on what a line holds
abbrev pub content_verdict : Content → Verdict
content_verdict blank = lines.blank
content_verdict (octets os) = read (reading os)
content_verdict not_hex = not_octets

of_content : (o : Option (List ℕ)) → content_verdict (content o) ≡ octets_verdict o
of_content None = refl
of_content (Some []) = refl
of_content (Some (o ∷ more)) = ap read (kept (o ∷ more))

pub verdict_of : {held : Content} (characters : List ℕ) → held ≡ content_of characters → content_verdict held ≡ line_verdict characters
verdict_of characters e = ap content_verdict e ∙ of_content (octets_of characters)
