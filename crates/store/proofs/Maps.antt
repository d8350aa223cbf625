-- What the maps of a store have, and when two of them are the same.
use Rattle.std.proofs.Common.{◌≡◌, ℕ, zero, suc, ◌<◌, ◌≤◌, Bool, true, false, cond, ◌&&◌, eqb, ltb, ◌≢◌, List, [], Some, None, Option, sym, refl, ap, ◌∙◌, inl, inr, arith}
use mathlib.Core.Path.{fun_ext}
use Rattle.std.specs.FinMap as map
use Rattle.std.specs.Ordering.{eq_by_cmp, nat_cmp}
use Rattle.std.specs.Cmp.{IsTotalOrder, both_tied, unsigned_ties, then_total, on_total, nat_cmp_total}
use Rattle.std.proofs.lemmas.Bool.Decides.{nat_tests}
use Rattle.std.proofs.lemmas.Bool.{cases_eq, cases_lt, eq-eqb, lt-ltb}
use Rattle.std.proofs.lemmas.Map.Lookups.{exact_pairs}
use Rattle.store.specs.Counting.{change, change2}
use Rattle.store.specs.Maps.{Queued, Queues, Hands, way_cmp, waiting_or_none, queue_in, hand_in, queues_to, with_hand, hands_below, all_hands}

way_total : IsTotalOrder way_cmp
way_total = then_total (on_total (λ x. x.0) nat_cmp_total) (on_total (λ x. x.1) nat_cmp_total)

way_exact : map.IsAntisymmetric way_cmp
way_exact = exact_pairs nat_cmp nat_cmp map.nat_cmp-IsAntisymmetric map.nat_cmp-IsAntisymmetric

eqb_back : (a b : ℕ) → eqb a b ≡ eqb b a
eqb_back a b = grind (arith, nat_tests)

way_eq : (l d i j : ℕ) → eq_by_cmp way_cmp (i, j) (l, d) ≡ (eqb l i && eqb d j)
way_eq l d i j = sym (both_tied (eqb i l) (eqb j d) (nat_cmp i l) (nat_cmp j d) (unsigned_ties i l) (unsigned_ties j d)) ∙ ap (λ b. b && eqb j d) (eqb_back i l) ∙ ap (λ b. eqb l i && b) (eqb_back j d)

place_eq : (p i : ℕ) → eq_by_cmp nat_cmp i p ≡ eqb p i
place_eq p i = sym (unsigned_ties i p) ∙ eqb_back i p

-- one queue written anew
get_queue : (q : Queues) (l d : ℕ) (v : List Queued) (i j : ℕ) → map.get (map.insert q (l, d) v) (i, j) ≡ cond (eqb l i && eqb d j) (Some v) (map.get q (i, j))
get_queue q l d v i j = map.get-insert way_total q (l, d) v (i, j) ∙ ap (λ b. cond b (Some v) (map.get q (i, j))) (way_eq l d i j)

pub queue_after : (q : Queues) (l d : ℕ) (v : List Queued) (i j : ℕ) → queue_in (map.insert q (l, d) v) i j ≡ change2 l d v (queue_in q) i j
queue_after q l d v i j = ap waiting_or_none (get_queue q l d v i j) ∙ go (eqb l i && eqb d j) (map.get q (i, j))
  where
    go : (b : Bool) (o : Option (List Queued)) → waiting_or_none (cond b (Some v) o) ≡ cond b v (waiting_or_none o)
    go true o = refl
    go false o = refl

pub queue_insert : (q : Queues) (l d : ℕ) (v : List Queued) → queue_in (map.insert q (l, d) v) ≡ change2 l d v (queue_in q)
queue_insert q l d v = fun_ext (λ i. fun_ext (queue_after q l d v i))

-- one hand more or less
pub hand_insert : (h : Hands) (p : ℕ) (o : List ℕ) → hand_in (map.insert h p o) ≡ change p (Some o) (hand_in h)
hand_insert h p o = fun_ext (λ i. map.get-insert nat_cmp_total h p o i ∙ ap (λ b. cond b (Some o) (map.get h i)) (place_eq p i))

pub hand_remove : (h : Hands) (p : ℕ) → hand_in (map.remove h p) ≡ change p None (hand_in h)
hand_remove h p = fun_ext (λ i. map.get-remove nat_cmp_total h p i ∙ ap (λ b. cond b None (map.get h i)) (place_eq p i))

pub queue_empty : (i j : ℕ) → map.get (map.empty {X = List Queued} {R = way_cmp}) (i, j) ≡ None
queue_empty i j = map.get-empty way_cmp (i, j)

pub hand_empty : (p : ℕ) → hand_in map.empty p ≡ None
hand_empty p = map.get-empty nat_cmp p

module _ (q : ℕ → ℕ → List Queued) where
  get_to : (n i j : ℕ) → map.get (queues_to n q) (i, j) ≡ cond (ltb i n && ltb j 2) (Some (q i j)) None
  get_to zero i j = queue_empty i j ∙ (let e : ltb i 0 ≡ false = grind (arith, nat_tests) in rw e)
  get_to (suc n) i j = get_queue (map.insert (queues_to n q) (n, 0) (q n 0)) n 1 (q n 1) i j ∙ ap (cond (eqb n i && eqb 1 j) (Some (q n 1))) (get_queue (queues_to n q) n 0 (q n 0) i j ∙ ap (cond (eqb n i && eqb 0 j) (Some (q n 0))) (get_to n i j)) ∙ elim (cases_eq i n) [ inl e ↦ rw e (here j) | inr ne ↦ there ne ]
    where
      here : (j : ℕ) → cond (eqb n n && eqb 1 j) (Some (q n 1)) (cond (eqb n n && eqb 0 j) (Some (q n 0)) (cond (ltb n n && ltb j 2) (Some (q n j)) None)) ≡ cond (ltb n (suc n) && ltb j 2) (Some (q n j)) None
      here zero = let a : eqb n n ≡ true = eq-eqb n n refl in let b : ltb n (suc n) ≡ true = grind (arith, nat_tests) in rw (a, b)
      here (suc zero) = let a : eqb n n ≡ true = eq-eqb n n refl in let b : ltb n (suc n) ≡ true = grind (arith, nat_tests) in rw (a, b)
      here (suc (suc j)) = let a : eqb 1 (suc (suc j)) ≡ false = grind (arith, nat_tests) in let b : eqb 0 (suc (suc j)) ≡ false = grind (arith, nat_tests) in let c : ltb (suc (suc j)) 2 ≡ false = grind (arith, nat_tests) in rw (a, b, c) (none (eqb n n) (ltb n n) (ltb n (suc n)))
        where
          none : (a b c : Bool) → cond (a && false) (Some (q n 1)) (cond (a && false) (Some (q n 0)) (cond (b && false) (Some (q n (suc (suc j)))) None)) ≡ cond (c && false) (Some (q n (suc (suc j)))) None
          none true true true = refl
          none true true false = refl
          none true false true = refl
          none true false false = refl
          none false true true = refl
          none false true false = refl
          none false false true = refl
          none false false false = refl

      there : i ≢ n → cond (eqb n i && eqb 1 j) (Some (q n 1)) (cond (eqb n i && eqb 0 j) (Some (q n 0)) (cond (ltb i n && ltb j 2) (Some (q i j)) None)) ≡ cond (ltb i (suc n) && ltb j 2) (Some (q i j)) None
      there ne = let a : eqb n i ≡ false = grind (arith, nat_tests) in let b : ltb i (suc n) ≡ ltb i n = grind (arith, nat_tests) in rw (a, b)

  -- a queue that is there
  pub queue_at : (n l d : ℕ) → l < n → d < 2 → queue_in (queues_to n q) l d ≡ q l d
  queue_at n l d a b = ap waiting_or_none (get_to n l d) ∙ rw (lt-ltb l n a, lt-ltb d 2 b)

  -- nothing waits in it or in one that is not
  pub queue_or_none : (P : List Queued → Type 0) (n l d : ℕ) → P [] → P (q l d) → P (queue_in (queues_to n q) l d)
  queue_or_none P n l d a b = rw (get_to n l d) (go (ltb l n && ltb d 2))
    where
      go : (t : Bool) → P (waiting_or_none (cond t (Some (q l d)) None))
      go true = b
      go false = a

  -- the same queues, and one that differs
  module _ (r : ℕ → ℕ → List Queued) where
    pub queues_same : (n : ℕ) → ((i j : ℕ) → j < 2 → r i j ≡ q i j) → queues_to n r ≡ queues_to n q
    queues_same zero e = refl
    queues_same (suc n) e = rw (e n 0 (omega arith), e n 1 (omega arith), queues_same n e)

pub queues_change : (n l d : ℕ) (v : List Queued) (q r : ℕ → ℕ → List Queued) → l < n → d < 2 → ((i j : ℕ) → j < 2 → r i j ≡ change2 l d v q i j) → queues_to n r ≡ map.insert (queues_to n q) (l, d) v
queues_change n l d v q r a b e = map.same_map way_total way_exact _ _ (λ k. get_to r n k.0 k.1 ∙ at k.0 k.1 ∙ sym (get_queue (queues_to n q) l d v k.0 k.1 ∙ ap (cond (eqb l k.0 && eqb d k.1) (Some v)) (get_to q n k.0 k.1)))
  where
    at : (i j : ℕ) → cond (ltb i n && ltb j 2) (Some (r i j)) None ≡ cond (eqb l i && eqb d j) (Some v) (cond (ltb i n && ltb j 2) (Some (q i j)) None)
    at i j = elim (cases_lt j 2) [ inl m ↦ rw (e i j m) (inside (eqb l i && eqb d j) refl) | inr m ↦ outside m ]
      where
        inside : (t : Bool) → (eqb l i && eqb d j) ≡ t → cond (ltb i n && ltb j 2) (Some (cond t v (q i j))) None ≡ cond t (Some v) (cond (ltb i n && ltb j 2) (Some (q i j)) None)
        inside true s = let h : (ltb i n && ltb j 2) ≡ true = grind (arith, nat_tests) in rw h
        inside false s = refl

        outside : 2 ≤ j → cond (ltb i n && ltb j 2) (Some (r i j)) None ≡ cond (eqb l i && eqb d j) (Some v) (cond (ltb i n && ltb j 2) (Some (q i j)) None)
        outside m =
            let s : (eqb l i && eqb d j) ≡ false = grind (arith, nat_tests) in
            let c : (ltb i n && ltb j 2) ≡ false = grind (arith, nat_tests) in
            rw (s, c)

module _ (f : ℕ → Option (List ℕ)) where
  get_below : (n p : ℕ) → hand_in (hands_below n f) p ≡ cond (ltb p n) (f p) None
  get_below zero p = hand_empty p ∙ (let e : ltb p 0 ≡ false = grind (arith, nat_tests) in rw e)
  get_below (suc n) p = go (f n) refl (get_below n p)
    where
      go : (o : Option (List ℕ)) → f n ≡ o → hand_in (hands_below n f) p ≡ cond (ltb p n) (f p) None → hand_in (with_hand n o (hands_below n f)) p ≡ cond (ltb p (suc n)) (f p) None
      go None e h = h ∙ elim (cases_eq p n) [ inl s ↦ (let a : ltb n n ≡ false = grind (arith, nat_tests) in let b : ltb n (suc n) ≡ true = grind (arith, nat_tests) in rw (s, a, b, e)) | inr ne ↦ (let b : ltb p (suc n) ≡ ltb p n = grind (arith, nat_tests) in rw b) ]
      go (Some o) e h = ap (λ (g : ℕ → Option (List ℕ)). g p) (hand_insert (hands_below n f) n o) ∙ ap (cond (eqb n p) (Some o)) h ∙ elim (cases_eq p n) [ inl s ↦ (let a : eqb n n ≡ true = eq-eqb n n refl in let b : ltb n (suc n) ≡ true = grind (arith, nat_tests) in rw (s, a, b, e)) | inr ne ↦ (let a : eqb n p ≡ false = grind (arith, nat_tests) in let b : ltb p (suc n) ≡ ltb p n = grind (arith, nat_tests) in rw (a, b)) ]

  hands_none : (n : ℕ) → ((p : ℕ) → f p ≡ None) → hands_below n f ≡ map.empty
  hands_none zero e = refl
  hands_none (suc n) e = rw (e n) (hands_none n e)

  hands_as : (n : ℕ) (g : ℕ → Option (List ℕ)) → ((p : ℕ) → g p ≡ f p) → hands_below n g ≡ hands_below n f
  hands_as zero g e = refl
  hands_as (suc n) g e = rw (e n, hands_as n g e)

  -- what is in hand at a place
  pub hand_at : (p : ℕ) → hand_in (all_hands f) p ≡ cond (ltb p 128) (f p) None
  unfolding all_hands
  hand_at p = get_below 128 p

  pub no_hands : ((p : ℕ) → f p ≡ None) → all_hands f ≡ map.empty
  unfolding all_hands
  no_hands e = hands_none 128 e

  -- the same hands, and one more or less
  module _ (g : ℕ → Option (List ℕ)) where
    pub hands_same : ((p : ℕ) → g p ≡ f p) → all_hands g ≡ all_hands f
    unfolding all_hands
    hands_same e = hands_as 128 g e

pub hands_more : (f g : ℕ → Option (List ℕ)) (p : ℕ) (o : List ℕ) → p < 128 → ((i : ℕ) → g i ≡ change p (Some o) f i) → all_hands g ≡ map.insert (all_hands f) p o
hands_more f g p o l e = map.same_map nat_cmp_total map.nat_cmp-IsAntisymmetric _ _ (λ i. hand_at g i ∙ at i ∙ sym (ap (λ (x : ℕ → Option (List ℕ)). x i) (hand_insert (all_hands f) p o) ∙ ap (cond (eqb p i) (Some o)) (hand_at f i)))
  where
    at : (i : ℕ) → cond (ltb i 128) (g i) None ≡ cond (eqb p i) (Some o) (cond (ltb i 128) (f i) None)
    at i = rw (e i) (elim (cases_eq i p) [ inl s ↦ (let a : eqb p p ≡ true = eq-eqb p p refl in rw (s, lt-ltb p 128 l, a)) | inr ne ↦ (let a : eqb p i ≡ false = grind (arith, nat_tests) in rw a) ])

pub hands_less : (f g : ℕ → Option (List ℕ)) (p : ℕ) → ((i : ℕ) → g i ≡ change p None f i) → all_hands g ≡ map.remove (all_hands f) p
hands_less f g p e = map.same_map nat_cmp_total map.nat_cmp-IsAntisymmetric _ _ (λ i. hand_at g i ∙ rw (e i) (go (ltb i 128) (eqb p i) (f i)) ∙ sym (ap (λ (x : ℕ → Option (List ℕ)). x i) (hand_remove (all_hands f) p) ∙ ap (cond (eqb p i) None) (hand_at f i)))
  where
    go : (a b : Bool) (o : Option (List ℕ)) → cond a (cond b None o) None ≡ cond b None (cond a o None)
    go true true o = refl
    go true false o = refl
    go false true o = refl
    go false false o = refl
