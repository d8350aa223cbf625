-- What stands beside a frame of a history.
use Rattle.std.proofs.Common.{◌≡◌, ℕ, suc, ◌<◌, true, false, eqb, List, length, get_or, vec_len, Vec, Option, sym, refl, ◌∙◌, subst, arith}
use Rattle.std.specs.declared.alloc.Global.{Global}
use lib.ListN.{length-map}
use Rattle.clash.specs.Clashes.{frame_at, nobody, count, same_sender, same_number, other_kind}
use Rattle.clash.specs.Notes.{Kept, seen_in}
use Rattle.clash.specs.Places.{last_below}
use Rattle.clash.specs.Sightings.{Seen, shown}
use Rattle.clash.specs.declared.noted.Noted.{Noted}
use Rattle.clash.proofs.Lasts.{last_same, last_skip}
use Rattle.clash.proofs.Mapped.{read_map}
use Rattle.clash.proofs.Tests.{other_same}

pub record Beside (es : List Seen) (i : ℕ) (r : Noted) : Type 0 where
  pub below : i < length es
  pub frame : shown r.seen ≡ frame_at es i
  pub rank : r.rank ≡ count (λ k. same_sender (frame_at es i) (frame_at es k)) i
  pub previous : r.previous ≡ last_below (λ k. same_number (frame_at es i) (frame_at es k)) i
  pub other : r.other ≡ last_below (λ k. other_kind (frame_at es i) (frame_at es k)) i

-- there is a note for each frame
pub as_many : (ns : List Noted) (es : List Seen) → seen_in ns ≡ es → length ns ≡ length es
as_many ns es v = subst (λ (x : List Seen). length ns ≡ length x) v (sym (length-map ns (λ (n : Noted). shown n.seen)))

pub noted_at : (v : Vec Noted Global) (es : List Seen) (i : ℕ) → seen_in v.items ≡ es → i < length es → i < vec_len v
noted_at v es i e l = omega (arith, as_many v.items es e, v.ok.0)

pub beside : {f : List ℕ → Option ℕ} {g : ℕ × List ℕ → Option ℕ} (ns : List Noted) (es : List Seen) (i : ℕ) (r : Noted) → seen_in ns ≡ es → Kept ns f g → i < length es → r ≡ get_or ns i r → Beside es i r
beside ns es i r v w l e =
    let b : i < length ns = omega (arith, as_many ns es v) in
    let k : i < length (seen_in ns) = subst (λ (x : List Seen). i < length x) (sym v) l in
    subst (λ (x : List Seen). Beside x i r) v record {
      below = k;
      frame = read_map (λ (n : Noted). shown n.seen) ns i r nobody b e;
      rank = read_map (λ (n : Noted). n.rank) ns i r 0 b e ∙ w.ranked i k;
      previous = read_map (λ (n : Noted). n.previous) ns i r 0 b e ∙ w.preceded i k;
      other = read_map (λ (n : Noted). n.other) ns i r 0 b e ∙ w.differed i k;
    }

pub other_before : (es : List Seen) (s : Seen) (i : ℕ) (r : Noted) → Beside es i r → same_number s (frame_at es i) ≡ true → eqb s.kind (frame_at es i).kind ≡ true → last_below (λ k. other_kind s (frame_at es k)) (suc i) ≡ r.other
other_before es s i r b n k =
    let f : other_kind s (frame_at es i) ≡ false = rw (n, k) refl in
    last_skip (λ j. other_kind s (frame_at es j)) i f ∙ last_same _ _ i (λ j l. other_same s (frame_at es i) (frame_at es j) n k) ∙ sym b.other
