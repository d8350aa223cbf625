-- One more frame leaves what stands beside the others, and what is found, right.
use Rattle.std.proofs.Common.{◌≡◌, ℕ, zero, ◌<◌, Bool, List, [], ◌∷◌, ◌++◌, map, length, Option, Some, cond, suc, ◌+◌, ◌&&◌, sym, refl, subst, ap, ◌∙◌, ap₂, subst₂, inl, inr, arith}
use lib.ListN.{length-map}
use Rattle.clash.specs.Clashes.{frame_at, nobody, count, same_sender, same_number, other_kind}
use Rattle.clash.specs.Notes.{Recorded, Counted, Latest, Kept, Described, number_eq, number_of, seen_in}
use Rattle.clash.specs.Places.{last_below, entry}
use Rattle.clash.proofs.Counts.{count_same}
use Rattle.clash.proofs.Lasts.{last_same}
use Rattle.std.specs.Map.{count_at}
use Rattle.std.specs.Option.{unwrap_or}
use Rattle.std.specs.Str.{bytes_eq}
use Rattle.std.proofs.lemmas.Cmp.{nat_eq_equiv, nat_list_eq_equiv}
use Rattle.clash.specs.Sightings.{Seen, shown}
use Rattle.clash.specs.declared.noted.Noted.{Noted}
use Rattle.std.proofs.lemmas.List.{get_or_append_left, get_or_push, length_push, map-append}
use Rattle.std.proofs.lemmas.Bool.{cases_lt, cases_Bool}

-- F looks only at the places below its bound
abbrev pub Local : ((ℕ → Bool) → ℕ → ℕ) → Type 0
Local F = (p q : ℕ → Bool) (m : ℕ) → ((i : ℕ) → i < m → p i ≡ q i) → F p m ≡ F q m

kept : (es : List Seen) (s : Seen) (i : ℕ) → i < length es → frame_at es i ≡ frame_at (es ++ s ∷ []) i
kept es s i l = sym (get_or_append_left es (s ∷ []) nobody i l)

recorded_push : (F : (ℕ → Bool) → ℕ → ℕ) → Local F → (R : Seen → Seen → Bool) (es : List Seen) (vs : List ℕ) (s : Seen) (v : ℕ) → length vs ≡ length es → v ≡ F (λ i. R s (frame_at es i)) (length es) → Recorded F R es vs → Recorded F R (es ++ s ∷ []) (vs ++ v ∷ [])
recorded_push F same R es vs s v n e h j l =
    elim (cases_lt j (length es)) [
      | inl x ↦ (
          let w : j < length vs = omega arith in
          get_or_append_left vs (v ∷ []) 0 j w ∙ h j x ∙ same (λ i. R (frame_at es j) (frame_at es i)) (λ i. R (frame_at (es ++ s ∷ []) j) (frame_at (es ++ s ∷ []) i)) j
          (λ i y. ap₂ R (kept es s j x) (kept es s i (omega arith)))
          )
      | inr x ↦ (
          let z : length es ≡ j = omega (arith, length_push es s) in
          let u : length vs ≡ j = omega arith in
          get_or_push vs v 0 j u ∙ e ∙ ap (F (λ i. R s (frame_at es i))) z ∙ same (λ i. R s (frame_at es i)) (λ i. R (frame_at (es ++ s ∷ []) j) (frame_at (es ++ s ∷ []) i)) j
          (λ i y. ap₂ R (sym (get_or_push es s nobody j z)) (kept es s i (omega arith)))
          )
    ]

pub seen_push : (ns ns' : List Noted) (r : Noted) (s : Seen) → ns' ≡ ns ++ r ∷ [] → shown r.seen ≡ s → seen_in ns' ≡ seen_in ns ++ s ∷ []
seen_push ns ns' r s e f = ap seen_in e ∙ map-append (λ (n : Noted). shown n.seen) ns (r ∷ []) ∙ ap (λ (x : Seen). seen_in ns ++ x ∷ []) f

pub noted_push : (F : (ℕ → Bool) → ℕ → ℕ) → Local F → (R : Seen → Seen → Bool) (g : Noted → ℕ) (ns ns' : List Noted) (r : Noted) (s : Seen) → ns' ≡ ns ++ r ∷ [] → shown r.seen ≡ s → g r ≡ F (λ i. R s (frame_at (seen_in ns) i)) (length (seen_in ns)) → Recorded F R (seen_in ns) (map g ns) → Recorded F R (seen_in ns') (map g ns')
noted_push F same R g ns ns' r s e f v h =
    let n : length (map g ns) ≡ length (seen_in ns) = length-map ns g ∙ sym (length-map ns (λ (x : Noted). shown x.seen)) in
    subst₂ (Recorded F R) (sym (seen_push ns ns' r s e f)) (sym (ap (map g) e ∙ map-append g ns (r ∷ []))) (recorded_push F same R (seen_in ns) (map g ns) s (g r) n v h)

sender_kept : (es : List Seen) (s : Seen) (k : List ℕ) (i : ℕ) → i < length es → bytes_eq k (frame_at (es ++ s ∷ []) i).sender ≡ bytes_eq k (frame_at es i).sender
sender_kept es s k i l = ap (λ (x : Seen). bytes_eq k x.sender) (sym (kept es s i l))

last_one : (es : List Seen) (s : Seen) → frame_at (es ++ s ∷ []) (length es) ≡ s
last_one es s = get_or_push es s nobody (length es) refl

count_next : (p : ℕ → Bool) (m n : ℕ) → n ≡ suc m → count p n ≡ cond (p m) 1 0 + count p m
count_next p m n e = rw e refl

last_next : (p : ℕ → Bool) (m n : ℕ) → n ≡ suc m → last_below p n ≡ cond (p m) n (last_below p m)
last_next p m n e = rw e refl

long : (es : List Seen) (s : Seen) → length (es ++ s ∷ []) ≡ suc (length es)
long es s = omega (arith, length_push es s)

counted_push : (es : List Seen) (s : Seen) (f f' : List ℕ → Option ℕ) (n : ℕ) → Counted es f → n ≡ count (λ i. same_sender s (frame_at es i)) (length es) → ((k : List ℕ) → f' k ≡ cond (bytes_eq s.sender k) (Some (n + 1)) (f k)) → Counted (es ++ s ∷ []) f'
counted_push es s f f' n h e u k =
    let p : ℕ → Bool = λ i. bytes_eq k (frame_at es i).sender in
    let q : ℕ → Bool = λ i. bytes_eq k (frame_at (es ++ s ∷ []) i).sender in
    let old : count q (length es) ≡ count p (length es) = count_same q p (length es) (sender_kept es s k) in
    let new : q (length es) ≡ bytes_eq k s.sender = ap (λ (x : Seen). bytes_eq k x.sender) (last_one es s) in
    let grown : count q (length (es ++ s ∷ [])) ≡ cond (bytes_eq k s.sender) 1 0 + count p (length es) =
    count_next q (length es) (length (es ++ s ∷ [])) (long es s) ∙ ap₂ (λ (b : Bool) (m : ℕ). cond b 1 0 + m) new old in
    let turned : bytes_eq s.sender k ≡ bytes_eq k s.sender = nat_list_eq_equiv.symm s.sender k in
    elim (cases_Bool (bytes_eq k s.sender)) [
      | inl t ↦ (
          let found : f' k ≡ Some (n + 1) = u k ∙ rw (turned ∙ t) refl in
          let same : count p (length es) ≡ n = count_same _ _ (length es) (λ i l. nat_list_eq_equiv.congr k s.sender (frame_at es i).sender t) ∙ sym e in
          let one : cond {A = ℕ} (bytes_eq k s.sender) 1 0 ≡ 1 = rw t refl in
          ap (λ (o : Option ℕ). unwrap_or o 0) found ∙ omega (arith, grown, same, one)
          )
      | inr x ↦ (
          let found : f' k ≡ f k = u k ∙ rw (turned ∙ x) refl in
          let none : cond {A = ℕ} (bytes_eq k s.sender) 1 0 ≡ 0 = rw x refl in
          ap (λ (o : Option ℕ). unwrap_or o 0) found ∙ omega (arith, h k, grown, none)
          )
    ]

-- two numbers are one either way round
number_sym : (a b : ℕ × List ℕ) → number_eq b a ≡ number_eq a b
number_sym a b = ap₂ (λ (x y : Bool). x && y) (nat_eq_equiv.symm b.0 a.0) (nat_list_eq_equiv.symm b.1 a.1)

latest_push : (es : List Seen) (s : Seen) (g g' : ℕ × List ℕ → Option ℕ) (n : ℕ) → Latest es g → n ≡ suc (length es) → ((k : ℕ × List ℕ) → g' k ≡ cond (number_eq (s.sequence, s.sender) k) (Some n) (g k)) → Latest (es ++ s ∷ []) g'
latest_push es s g g' n h e u k =
    let p : ℕ → Bool = λ i. number_eq k (number_of (frame_at es i)) in
    let q : ℕ → Bool = λ i. number_eq k (number_of (frame_at (es ++ s ∷ []) i)) in
    let old : last_below q (length es) ≡ last_below p (length es) = last_same q p (length es) (λ i l. ap (λ (x : Seen). number_eq k (number_of x)) (sym (kept es s i l))) in
    let new : q (length es) ≡ number_eq k (number_of s) = ap (λ (x : Seen). number_eq k (number_of x)) (last_one es s) in
    let grown : last_below q (length (es ++ s ∷ [])) ≡ cond (number_eq k (number_of s)) (length (es ++ s ∷ [])) (last_below p (length es)) =
    last_next q (length es) (length (es ++ s ∷ [])) (long es s) ∙ ap₂ (λ (b : Bool) (m : ℕ). cond b (length (es ++ s ∷ [])) m) new old in
    elim (cases_Bool (number_eq k (number_of s))) [
      | inl t ↦ (
          let found : g' k ≡ Some n = u k ∙ rw (number_sym k (number_of s) ∙ t) refl in
          let here : last_below q (length (es ++ s ∷ [])) ≡ length (es ++ s ∷ []) = grown ∙ rw t refl in
          found ∙ ap Some e ∙ sym (ap entry (here ∙ long es s))
          )
      | inr x ↦ (
          let found : g' k ≡ g k = u k ∙ rw (number_sym k (number_of s) ∙ x) refl in
          let gone : last_below q (length (es ++ s ∷ [])) ≡ last_below p (length es) = grown ∙ rw x refl in
          found ∙ h k ∙ sym (ap entry gone)
          )
    ]

-- a history with the same frames, and with what is found as it was
pub kept_same : {ns ns' : List Noted} {f f' : List ℕ → Option ℕ} {g g' : ℕ × List ℕ → Option ℕ} → Kept ns f g → ns' ≡ ns → ((k : List ℕ) → f' k ≡ f k) → ((k : ℕ × List ℕ) → g' k ≡ g k) → Kept ns' f' g'
kept_same {f' = f'} {g' = g'} w e u v =
    subst (λ (xs : List Noted). Kept xs f' g') (sym e) record {
      ranked = w.ranked;
      preceded = w.preceded;
      differed = w.differed;
      counted = λ k. ap (λ (o : Option ℕ). unwrap_or o 0) (u k) ∙ w.counted k;
      latest = λ k. v k ∙ w.latest k;
    }

-- a history with one more frame
pub kept_push : {ns ns' : List Noted} {f f' : List ℕ → Option ℕ} {g g' : ℕ × List ℕ → Option ℕ} (es : List Seen) (s : Seen) (r : Noted) (m n : ℕ) → Kept ns f g → seen_in ns ≡ es → Described es s r → ns' ≡ ns ++ r ∷ [] → m ≡ r.rank + 1 → n ≡ length ns + 1 → ((k : List ℕ) → f' k ≡ cond (bytes_eq s.sender k) (Some m) (f k)) → ((k : ℕ × List ℕ) → g' k ≡ cond (number_eq (number_of s) k) (Some n) (g k)) → Kept ns' f' g'
kept_push {ns} {ns'} {f} {f'} {g} {g'} es s r m n w v d e x y u z =
    let d' : Described (seen_in ns) s r = subst (λ (xs : List Seen). Described xs s r) (sym v) d in
    let t = seen_push ns ns' r s e d.frame in
    let many : n ≡ suc (length (seen_in ns)) = omega (arith, y, length-map ns (λ (a : Noted). shown a.seen)) in
    let u' : (k : List ℕ) → f' k ≡ cond (bytes_eq s.sender k) (Some (r.rank + 1)) (f k) = λ k. u k ∙ ap (λ (b : ℕ). cond (bytes_eq s.sender k) (Some b) (f k)) x in
    record {
      ranked = noted_push count count_same same_sender (λ (a : Noted). a.rank) ns ns' r s e d.frame d'.rank w.ranked;
      preceded = noted_push last_below last_same same_number (λ (a : Noted). a.previous) ns ns' r s e d.frame d'.previous w.preceded;
      differed = noted_push last_below last_same other_kind (λ (a : Noted). a.other) ns ns' r s e d.frame d'.other w.differed;
      counted = subst (λ (xs : List Seen). Counted xs f') (sym t) (counted_push (seen_in ns) s f f' r.rank w.counted d'.rank u');
      latest = subst (λ (xs : List Seen). Latest xs g') (sym t) (latest_push (seen_in ns) s g g' n w.latest many z);
    }

-- what is found in a history, by its frames
pub counted_at : {ns : List Noted} {f : List ℕ → Option ℕ} {g : ℕ × List ℕ → Option ℕ} (es : List Seen) → Kept ns f g → seen_in ns ≡ es → (k : List ℕ) → count_at f k ≡ count (λ i. bytes_eq k (frame_at es i).sender) (length es)
counted_at {f = f} es w v k = subst (λ (xs : List Seen). count_at f k ≡ count (λ i. bytes_eq k (frame_at xs i).sender) (length xs)) v (w.counted k)

pub latest_at : {ns : List Noted} {f : List ℕ → Option ℕ} {g : ℕ × List ℕ → Option ℕ} (es : List Seen) → Kept ns f g → seen_in ns ≡ es → (k : ℕ × List ℕ) → g k ≡ entry (last_below (λ i. number_eq k (number_of (frame_at es i))) (length es))
latest_at {g = g} es w v k = subst (λ (xs : List Seen). g k ≡ entry (last_below (λ i. number_eq k (number_of (frame_at xs i))) (length xs))) v (w.latest k)

or_none : (n : ℕ) → unwrap_or (entry n) 0 ≡ n
or_none zero = refl
or_none (suc i) = refl

-- the same, with 0 for no entry
pub latest_count_at : {ns : List Noted} {f : List ℕ → Option ℕ} {g : ℕ × List ℕ → Option ℕ} (es : List Seen) → Kept ns f g → seen_in ns ≡ es → (k : ℕ × List ℕ) → count_at g k ≡ last_below (λ i. number_eq k (number_of (frame_at es i))) (length es)
latest_count_at es w v k = ap (λ (o : Option ℕ). unwrap_or o 0) (latest_at es w v k) ∙ or_none (last_below (λ i. number_eq k (number_of (frame_at es i))) (length es))
