-- The way back over the frames that a frame clashes with.
use Rattle.std.proofs.Common.{◌≡◌, ℕ, zero, suc, ◌+◌, ◌-◌, ◌<◌, ◌≤◌, true, false, not, eqb, ltb, List, [], ◌∷◌, length, get_or, Option, sym, refl, ap, ◌∙◌, ap₂, inl, inr, arith}
use Rattle.clash.specs.Clashes.{frame_at, count, same_sender, same_number, other_kind, between, clash, partners, clash_lines, IsOnTrail}
use Rattle.clash.specs.Notes.{Kept, seen_in}
use Rattle.clash.specs.Places.{last_below}
use Rattle.clash.specs.Sightings.{Seen, shown}
use Rattle.clash.specs.declared.noted.Noted.{Noted}
use Rattle.clash.proofs.Beside.{Beside, beside, as_many}
use Rattle.clash.proofs.Counts.{count_same, count_split, after_more}
use Rattle.clash.proofs.Lasts.{last_same, last_found, last_here, last_skip}
use Rattle.clash.proofs.Tests.{sender_same, number_same, other_within}
use Rattle.std.proofs.lemmas.Bool.{and_parts, and_from, and_left, and_right, cases_Bool, cond-true, cond-false, lt-ltb, le-ltb, ltb-true, ltb-false}

partners_skip : (es : List Seen) (j m : ℕ) → clash es m j ≡ false → partners es j (suc m) ≡ partners es j m
partners_skip es j m e = cond-false (clash es m j) ((frame_at es m).line ∷ partners es j m) (partners es j m) e

partners_here : (es : List Seen) (j m : ℕ) → clash es m j ≡ true → partners es j (suc m) ≡ (frame_at es m).line ∷ partners es j m
partners_here es j m e = cond-true (clash es m j) ((frame_at es m).line ∷ partners es j m) (partners es j m) e

partners_none : (es : List Seen) (j m : ℕ) → ((k : ℕ) → k < m → clash es k j ≡ false) → partners es j m ≡ []
partners_none es j zero h = refl
partners_none es j (suc m) h = partners_skip es j m (h m (omega arith)) ∙ partners_none es j m (λ k l. h k (omega arith))

-- only a frame of another kind clashes
partners_within : (es : List Seen) (j m : ℕ) → partners es j m ≡ partners es j (last_below (λ k. other_kind (frame_at es j) (frame_at es k)) m)
partners_within es j zero = refl
partners_within es j (suc m) =
    elim (cases_Bool (other_kind (frame_at es j) (frame_at es m))) [
      | inl t ↦ ap (partners es j) (sym (last_here (λ k. other_kind (frame_at es j) (frame_at es k)) m t))
      | inr f ↦ partners_skip es j m (and_left (other_kind (frame_at es j) (frame_at es m)) (ltb (between es m j) 32768) f) ∙ partners_within es j m
          ∙ ap (partners es j) (sym (last_skip (λ k. other_kind (frame_at es j) (frame_at es k)) m f))
    ]

-- frames of one sender: how far apart their ranks are
apart : (es : List Seen) (i j : ℕ) (r q : Noted) → Beside es i r → Beside es j q → i < j → same_sender (frame_at es j) (frame_at es i) ≡ true → q.rank ≡ r.rank + 1 + between es i j
apart es i j r q b d l t =
    let split = count_split (λ k. same_sender (frame_at es j) (frame_at es k)) i j l in
    let here : count (λ k. same_sender (frame_at es j) (frame_at es k)) (suc i) ≡ 1 + count (λ k. same_sender (frame_at es j) (frame_at es k)) i = rw t refl in
    let same : count (λ k. same_sender (frame_at es j) (frame_at es k)) i ≡ count (λ k. same_sender (frame_at es i) (frame_at es k)) i = count_same _ _ i (λ k x. sender_same (frame_at es j) (frame_at es i) (frame_at es k) t) in
    omega (arith, b.rank, d.rank, split, here, same)

number_part : (a b : Seen) → other_kind a b ≡ true → same_number a b ≡ true
number_part a b t = (and_parts (same_number a b) (not (eqb a.kind b.kind)) t).0

sender_part : (a b : Seen) → other_kind a b ≡ true → same_sender a b ≡ true
sender_part a b t = (and_parts (eqb a.sequence b.sequence) (same_sender a b) (number_part a b t)).1

-- a turn of the search: it has come to place i, beside which r stands, and q stands beside frame j
pub record Turn (es : List Seen) (i j : ℕ) (r q : Noted) : Type 0 where
  pub within : (i < j) × (j < length es) × (other_kind (frame_at es j) (frame_at es i) ≡ true)
  pub here : Beside es i r
  pub top : Beside es j q

pub turn : {f : List ℕ → Option ℕ} {g : ℕ × List ℕ → Option ℕ} (ns : List Noted) {es : List Seen} {i j s : ℕ} {r q : Noted} → seen_in ns ≡ es → Kept ns f g → IsOnTrail es j s → s ≡ suc i → q ≡ get_or ns j q → r ≡ get_or ns i r → Turn es i j r q
turn ns {es} {i} {j} {s} {r} {q} v w t e x y =
    let a = t i e in
    let b : i < length es = omega (arith, a.0, a.1) in
    record { within = a; here = beside ns es i r v w b y; top = beside ns es j q v w a.1 x }

rank_apart : {es : List Seen} {i j : ℕ} {r q : Noted} → Turn es i j r q → q.rank ≡ r.rank + 1 + between es i j
rank_apart {es} {i} {j} {r} {q} t = apart es i j r q t.here t.top t.within.0 (sender_part (frame_at es j) (frame_at es i) t.within.2)

pub ranks_ordered : {es : List Seen} {i j : ℕ} {r q : Noted} → Turn es i j r q → r.rank ≤ q.rank
ranks_ordered t = omega (arith, rank_apart t)

-- nothing clashes from the first frame on that lies too far back
pub none_past : {es : List Seen} {i j : ℕ} {r q : Noted} → Turn es i j r q → true ≡ ltb 32768 (q.rank - r.rank) → partners es j (suc i) ≡ []
none_past {es} {i} {j} {r} {q} t p =
    let far : 32768 ≤ between es i j = omega (arith, rank_apart t, ltb-true 32768 (q.rank - r.rank) (sym p)) in
    partners_none es j (suc i) (λ k l. and_right (other_kind (frame_at es j) (frame_at es k)) (ltb (between es k j) 32768)
    (le-ltb (between es k j) 32768 (omega (arith, far, after_more (λ x. same_sender (frame_at es j) (frame_at es x)) i k j (omega arith)))))

previous_for : {es : List Seen} {i j : ℕ} {r q : Noted} → Turn es i j r q → r.previous ≡ last_below (λ k. same_number (frame_at es j) (frame_at es k)) i
previous_for {es} {i} {j} t =
    let same = number_part (frame_at es j) (frame_at es i) t.within.2 in
    t.here.previous ∙ sym (last_same _ _ i (λ k l. number_same (frame_at es j) (frame_at es i) (frame_at es k) same))

pub previous_found : {es : List Seen} {i j : ℕ} {r q : Noted} → Turn es i j r q → (k : ℕ) → r.previous ≡ suc k → (k < length es) × (same_number (shown q.seen) (frame_at es k) ≡ true)
previous_found {es} {i} {j} t k h =
    let f = last_found (λ x. same_number (frame_at es j) (frame_at es x)) i k (sym (previous_for t) ∙ h) in
    (omega (arith, f.0, t.here.below), ap (λ (x : Seen). same_number x (frame_at es k)) t.top.frame ∙ f.1)

-- where the search goes on
abbrev pub Onto : List Seen → Noted → Noted → ℕ → Type 0
Onto es r q o = o ≡ last_below (λ k. other_kind (shown q.seen) (frame_at es k)) r.previous

onto : {es : List Seen} {i j : ℕ} {r q : Noted} → Turn es i j r q → (o : ℕ) → Onto es r q o → o ≡ last_below (λ k. other_kind (frame_at es j) (frame_at es k)) i
onto {es} {i} {j} t o h =
    h ∙ ap₂ (λ (x : Seen) (m : ℕ). last_below (λ k. other_kind x (frame_at es k)) m) t.top.frame (previous_for t) ∙ sym (other_within es (frame_at es j) i)

pub goes_on : {es : List Seen} {i j : ℕ} {r q : Noted} → Turn es i j r q → (o : ℕ) → Onto es r q o → IsOnTrail es j o
goes_on {es} {i} {j} t o h k x =
    let f = last_found (λ y. other_kind (frame_at es j) (frame_at es y)) i k (sym (onto t o h) ∙ x) in
    (omega (arith, f.0, t.within.0), t.within.1, f.1)

pub one_more : {es : List Seen} {i j : ℕ} {r q : Noted} → Turn es i j r q → (o : ℕ) → Onto es r q o → false ≡ ltb 32768 (q.rank - r.rank) → partners es j (suc i) ≡ r.seen.line ∷ partners es j o
one_more {es} {i} {j} {r} {q} t o h p =
    let near : between es i j < 32768 = omega (arith, rank_apart t, ltb-false 32768 (q.rank - r.rank) (sym p)) in
    let here = partners_here es j i (and_from (other_kind (frame_at es j) (frame_at es i)) (ltb (between es i j) 32768) t.within.2 (lt-ltb (between es i j) 32768 near)) in
    let line = ap (λ (x : Seen). x.line) t.here.frame in
    here ∙ ap₂ (λ (x : ℕ) (xs : List ℕ). x ∷ xs) (sym line) (partners_within es j i ∙ ap (partners es j) (sym (onto t o h)))

-- how a search begins: at the latest frame that frame j may clash with
pub record Begins (es : List Seen) (j s : ℕ) : Type 0 where
  pub trail : IsOnTrail es j s
  pub all : partners es j s ≡ clash_lines es j

pub begins : {f : List ℕ → Option ℕ} {g : ℕ × List ℕ → Option ℕ} (ns : List Noted) (es : List Seen) (j : ℕ) (q : Noted) → seen_in ns ≡ es → Kept ns f g → j < length ns → q ≡ get_or ns j q → Begins es j q.other
begins ns es j q v w b e =
    let l : j < length es = omega (arith, as_many ns es v) in
    let d = beside ns es j q v w l e in
    record {
      trail = λ i y. let f = last_found (λ k. other_kind (frame_at es j) (frame_at es k)) j i (sym d.other ∙ y) in (f.0, l, f.1);
      all = ap (partners es j) d.other ∙ sym (partners_within es j j) ∙ sym (cond-true (ltb j (length es)) (partners es j j) [] (lt-ltb j (length es) l));
    }
