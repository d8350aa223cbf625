-- How the definitions go on from one character or octet to the next.
use Rattle.std.proofs.Common.{◌≡◌, ℕ, ◌<◌, ◌≤◌, ◌⊎◌, List, [], ◌∷◌, ◌++◌, length, Some, sym, refl, ap, ◌∙◌, inl, inr, append-nil, arith}
use Rattle.std.proofs.lemmas.List.{take-append-le, take_all}
use Rattle.hexline.specs.declared.reader.Place.{Place}
use Rattle.hexline.specs.declared.reader.Place.TheVariants.{Between, Comment}
use Rattle.hexline.specs.Line.{octets, content}
use Rattle.hexline.specs.Meaning.{octets_from}

-- an octet past the 61st is not kept
pub full : (front more more' : List ℕ) → length front ≡ 61 → content (Some (front ++ more)) ≡ content (Some (front ++ more'))
full [] more more' h = absurd (omega arith)
full (o ∷ os) more more' h =
    let le : 61 ≤ length (o ∷ os) = omega arith in
    ap octets (take-append-le 61 (o ∷ os) more le ∙ sym (take-append-le 61 (o ∷ os) more' le))

-- a line with some octets, all of them kept
pub all_kept : (os : List ℕ) → 0 < length os → length os ≤ 61 → octets os ≡ content (Some (os ++ []))
all_kept [] p h = absurd (omega arith)
all_kept (o ∷ os) p h = ap octets (sym (rw (append-nil os) (take_all 61 (o ∷ os) h)))

-- between octets and in a comment a line may end
pub nothing_open : (place : Place) → (place ≡ Between) ⊎ (place ≡ Comment) → octets_from place [] ≡ Some []
nothing_open place (inl e) = rw e refl
nothing_open place (inr e) = rw e refl
