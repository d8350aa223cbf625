-- Frames that agree in sender, number or kind pass the same tests.
use Rattle.std.proofs.Common.{◌≡◌, ℕ, true, not, eqb, List, refl}
use Rattle.clash.specs.Clashes.{frame_at, same_sender, same_number, other_kind}
use Rattle.clash.specs.Places.{last_below}
use Rattle.clash.specs.Sightings.{Seen}
use Rattle.clash.proofs.Lasts.{last_within}
use Rattle.std.proofs.lemmas.Slice.Eq.{bytes_eq-Decides}
use Rattle.std.proofs.lemmas.Bool.{and_parts, eqb-true}

pub sender_same : (a b e : Seen) → same_sender a b ≡ true → same_sender a e ≡ same_sender b e
sender_same a b e t = let s = (bytes_eq-Decides a.sender b.sender).0 t in rw s refl

pub number_same : (a b e : Seen) → same_number a b ≡ true → same_number a e ≡ same_number b e
number_same a b e t =
    let h = and_parts (eqb a.sequence b.sequence) (same_sender a b) t in
    let q = eqb-true a.sequence b.sequence h.0 in
    let s = (bytes_eq-Decides a.sender b.sender).0 h.1 in
    rw (q, s) refl

pub other_same : (a b e : Seen) → same_number a b ≡ true → eqb a.kind b.kind ≡ true → other_kind a e ≡ other_kind b e
other_same a b e t k = let n = number_same a b e t in let i = eqb-true a.kind b.kind k in rw (n, i) refl

-- the latest frame of another kind lies no further on than the latest of any kind
pub other_within : (es : List Seen) (s : Seen) (m : ℕ) → last_below (λ k. other_kind s (frame_at es k)) m ≡ last_below (λ k. other_kind s (frame_at es k)) (last_below (λ k. same_number s (frame_at es k)) m)
other_within es s m =
    last_within (λ k. same_number s (frame_at es k)) (λ k. other_kind s (frame_at es k)) m
    (λ k l t. (and_parts (same_number s (frame_at es k)) (not (eqb s.kind (frame_at es k).kind)) t).0)
