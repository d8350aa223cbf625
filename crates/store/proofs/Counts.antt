-- No place stands twice, and all 128 are somewhere.
use Rattle.std.proofs.Common.{◌≡◌, ℕ, zero, suc, ◌+◌, ◌-◌, ◌<◌, ◌≤◌, Bool, true, false, cond, ◌&&◌, eqb, ltb, leb, List, [], ◌∷◌, ◌++◌, length, is_some, Some, None, Ok, Err, Option, sym, refl, ap, ◌∙◌, subst, inl, inr, arith}
use Rattle.std.proofs.lemmas.Bool.Decides.{nat_tests}
use Rattle.std.proofs.lemmas.Bool.{cond_both, cases_eq, and_parts}
use Rattle.std.proofs.lemmas.List.{map_push, length_push}
use Rattle.store.specs.declared.hand.InHand.{InHand}
use Rattle.refusal.specs.declared.Refusal.TheVariants.{FrameSize, NoSuchLink, NoSuchDirection}
use Rattle.store.specs.declared.hand.Put.TheVariants.{Waits, Lost}
use Rattle.store.specs.Counting.{change, change2, count, one, sum_to}
use Rattle.store.specs.Maps.{Queued, queued, queue_in, hand_in}
use Rattle.store.specs.Model.{Model, fresh, is_link, wrong_length, put_goes, put_in, places, FreeAt, taken_as, in_hand, passed_as, freed, over_queues}
use Rattle.store.specs.Laws.{Call, puts, takes, passes, spends, step, run, Fits, Allowed, hands_to, in_hands, AllPlaces, NoneTwice, FindsRoom}
use Rattle.store.proofs.Maps.{queue_insert, queue_or_none, hand_insert, hand_remove, hand_empty}
use Rattle.store.proofs.Standing.{one_few, sum_none, sum_same, sum_change, one_le, count_push, change_here, change_there}

-- all queues weighed, one of them changed
queue_sum : (n : ℕ) (w : List Queued → ℕ) (l d : ℕ) (v : List Queued) (q : ℕ → ℕ → List Queued) → l < n → d < 2 → over_queues n w (change2 l d v q) + w (q l d) ≡ over_queues n w q + w v
queue_sum n w l zero v q a b =
    let here : change2 l 0 v q l 0 ≡ v = grind (arith, nat_tests) in
    let next : change2 l 0 v q l 1 ≡ q l 1 = grind (arith, nat_tests) in
    omega (arith, sum_change n l (λ i. w (change2 l 0 v q i 0) + w (change2 l 0 v q i 1)) (λ i. w (q i 0) + w (q i 1)) (λ j ne. (let x : change2 l 0 v q j 0 ≡ q j 0 = grind (arith, nat_tests) in let y : change2 l 0 v q j 1 ≡ q j 1 = grind (arith, nat_tests) in omega (arith, ap w x, ap w y))) a, ap w here, ap w next)
queue_sum n w l (suc zero) v q a b =
    let here : change2 l 1 v q l 1 ≡ v = grind (arith, nat_tests) in
    let next : change2 l 1 v q l 0 ≡ q l 0 = grind (arith, nat_tests) in
    omega (arith, sum_change n l (λ i. w (change2 l 1 v q i 0) + w (change2 l 1 v q i 1)) (λ i. w (q i 0) + w (q i 1)) (λ j ne. (let x : change2 l 1 v q j 0 ≡ q j 0 = grind (arith, nat_tests) in let y : change2 l 1 v q j 1 ≡ q j 1 = grind (arith, nat_tests) in omega (arith, ap w x, ap w y))) a, ap w here, ap w next)
queue_sum n w l (suc (suc d)) v q a b = absurd (omega arith)

queue_le : (n : ℕ) (w : List Queued → ℕ) (l d : ℕ) (q : ℕ → ℕ → List Queued) → l < n → d < 2 → w (q l d) ≤ over_queues n w q
queue_le n w l zero q a b = omega (arith, one_le n l (λ i. w (q i 0) + w (q i 1)) a)
queue_le n w l (suc zero) q a b = omega (arith, one_le n l (λ i. w (q i 0) + w (q i 1)) a)
queue_le n w l (suc (suc d)) q a b = absurd (omega arith)

queue_none : (n : ℕ) (w : List Queued → ℕ) (q : ℕ → ℕ → List Queued) → ((l d : ℕ) → w (q l d) ≡ 0) → over_queues n w q ≡ 0
queue_none zero w q e = refl
queue_none (suc n) w q e = omega (arith, e n 0, e n 1, queue_none n w q e)

count_held : (p : ℕ) (hs : List Queued) (x : Queued) → count p (places (hs ++ x ∷ [])) ≡ count p (places hs) + one (eqb x.place p)
count_held p hs x = ap (count p) (map_push (λ h. h.place) hs x) ∙ count_push x.place p (places hs)

-- one hand changed
hand_sum : (n p : ℕ) (o : Option (List ℕ)) (h : ℕ → Option (List ℕ)) → p < n → sum_to n (λ i. one (is_some (change p o h i))) + one (is_some (h p)) ≡ sum_to n (λ i. one (is_some (h i))) + one (is_some o)
hand_sum n p o h a = omega (arith, sum_change n p (λ i. one (is_some (change p o h i))) (λ i. one (is_some (h i))) (λ j ne. ap (λ (x : Option (List ℕ)). one (is_some x)) (change_there p j o h ne)) a, ap (λ (x : Option (List ℕ)). one (is_some x)) (change_here p o h))

-- how many wait in the queues of n links
abbrev pub waits : ℕ → (ℕ → ℕ → List Queued) → ℕ
waits n q = over_queues n (λ hs. length hs) q

-- how often the place p stands in them and in hand
abbrev pub stands : ℕ → (ℕ → ℕ → List Queued) → (ℕ → Option (List ℕ)) → ℕ → ℕ
stands n q h p = over_queues n (λ hs. count p (places hs)) q + one (is_some (h p))

-- what every call keeps, of f free places, the queues q and the hands h; `top` is 128, the number of places
pub record Parts (top n f : ℕ) (q : ℕ → ℕ → List Queued) (h : ℕ → Option (List ℕ)) : Type 0 where
  pub once : (p : ℕ) → stands n q h p ≤ one (ltb p top)
  pub all : waits n q + sum_to top (λ p. one (is_some (h p))) + f ≡ top

-- of a store
pub record Sound (top n : ℕ) (m : Model) : Type 0 where
  pub links : m.links ≡ n
  pub parts : Parts top n m.free (queue_in m.queues) (hand_in m.hands)

module _ (top n f : ℕ) (q : ℕ → ℕ → List Queued) (h : ℕ → Option (List ℕ)) (s : Parts top n f q h) where
  put_parts : (l d p : ℕ) (o : List ℕ) → l < n → d < 2 → 0 < f → p < top → h p ≡ None → ((i j : ℕ) → count p (places (q i j)) ≡ 0) → Parts top n (f - 1) (change2 l d (q l d ++ queued p o ∷ []) q) h
  put_parts l d p o a b z c un fr = record {
    once = λ x. stands_at x;
    all = omega (arith, s.all, queue_sum n (λ hs. length hs) l d (q l d ++ queued p o ∷ []) q a b, length_push (q l d) (queued p o));
  }
    where
      stands_at : (x : ℕ) → stands n (change2 l d (q l d ++ queued p o ∷ []) q) h x ≤ one (ltb x top)
      stands_at x =
          let k = queue_sum n (λ hs. count x (places hs)) l d (q l d ++ queued p o ∷ []) q a b in
          let g = count_held x (q l d) (queued p o) in
          elim (cases_eq p x) [ inl e ↦ (let z : over_queues n (λ hs. count x (places hs)) q ≡ 0 = queue_none n (λ hs. count x (places hs)) q (λ i j. subst (λ y. count y (places (q i j)) ≡ 0) e (fr i j)) in let y : one (is_some (h x)) ≡ 0 = subst (λ t. one (is_some (h t)) ≡ 0) e (ap (λ (t : Option (List ℕ)). one (is_some t)) un) in let v : one (eqb p x) ≤ 1 = one_few (eqb p x) in let u : one (ltb x top) ≡ 1 = grind (arith, nat_tests) in omega arith) | inr ne ↦ (let v : one (eqb p x) ≡ 0 = grind (arith, nat_tests) in let r = s.once x in omega arith) ]

  take_parts : (l d : ℕ) (x : Queued) (xs : List Queued) → l < n → d < 2 → q l d ≡ x ∷ xs → Parts top n f (change2 l d xs q) (change x.place (Some x.octets) h)
  take_parts l d x xs a b e = record {
    once = stands_at;
    all = omega (arith, s.all, queue_sum n (λ hs. length hs) l d xs q a b, ap (λ (hs : List Queued). length hs) e, hand_sum top x.place (Some x.octets) h below, unheld);
  }
    where
      there : 1 ≤ over_queues n (λ hs. count x.place (places hs)) q
      there =
          let c : count x.place (places (q l d)) ≡ count x.place (places (x ∷ xs)) = ap (λ (hs : List Queued). count x.place (places hs)) e in
          let k = queue_le n (λ hs. count x.place (places hs)) l d q a b in
          let i : one (eqb x.place x.place) ≡ 1 = grind (arith, nat_tests) in
          omega arith

      below : x.place < top
      below = let a = there in let r = s.once x.place in grind (arith, nat_tests)

      unheld : one (is_some (h x.place)) ≡ 0
      unheld = let a = there in let r = s.once x.place in let w = one_few (ltb x.place top) in omega arith

      stands_at : (y : ℕ) → stands n (change2 l d xs q) (change x.place (Some x.octets) h) y ≤ one (ltb y top)
      stands_at y =
          let k = queue_sum n (λ hs. count y (places hs)) l d xs q a b in
          let c : count y (places (q l d)) ≡ one (eqb x.place y) + count y (places xs) = ap (λ (hs : List Queued). count y (places hs)) e in
          let r = s.once y in
          elim (cases_eq y x.place) [ inl e ↦ (let w : one (is_some (change x.place (Some x.octets) h y)) ≤ 1 = one_few (is_some (change x.place (Some x.octets) h y)) in let i : one (eqb x.place y) ≡ 1 = grind (arith, nat_tests) in let u : one (is_some (h y)) ≡ 0 = subst (λ t. one (is_some (h t)) ≡ 0) (sym e) unheld in omega arith) | inr ne ↦ (let w : one (is_some (change x.place (Some x.octets) h y)) ≡ one (is_some (h y)) = ap (λ (t : Option (List ℕ)). one (is_some t)) (change_there x.place y (Some x.octets) h ne) in omega arith) ]

  -- a frame in hand has a place below 128
  hand_below : (p : ℕ) → one (is_some (h p)) ≡ 1 → p < top
  hand_below p e = let r = s.once p in grind (arith, nat_tests)

  pass_parts : (l d p : ℕ) (o : List ℕ) → l < n → d < 2 → h p ≡ Some o → Parts top n f (change2 l d (q l d ++ queued p o ∷ []) q) (change p None h)
  pass_parts l d p o a b e = record {
    once = stands_at;
    all = omega (arith, s.all, queue_sum n (λ hs. length hs) l d (q l d ++ queued p o ∷ []) q a b, length_push (q l d) (queued p o), hand_sum top p None h (hand_below p inside), inside);
  }
    where
      inside : one (is_some (h p)) ≡ 1
      inside = ap (λ (t : Option (List ℕ)). one (is_some t)) e

      stands_at : (y : ℕ) → stands n (change2 l d (q l d ++ queued p o ∷ []) q) (change p None h) y ≤ one (ltb y top)
      stands_at y =
          let k = queue_sum n (λ hs. count y (places hs)) l d (q l d ++ queued p o ∷ []) q a b in
          let g = count_held y (q l d) (queued p o) in
          let r = s.once y in
          elim (cases_eq y p) [ inl e ↦ (let w : one (is_some (change p None h y)) ≡ 0 = subst (λ t. one (is_some (change p None h t)) ≡ 0) (sym e) (ap (λ (t : Option (List ℕ)). one (is_some t)) (change_here p None h)) in let u : one (is_some (h y)) ≡ 1 = subst (λ t. one (is_some (h t)) ≡ 1) (sym e) inside in let v = one_few (eqb p y) in omega arith) | inr ne ↦ (let w : one (is_some (change p None h y)) ≡ one (is_some (h y)) = ap (λ (t : Option (List ℕ)). one (is_some t)) (change_there p y None h ne) in let v : one (eqb p y) ≡ 0 = grind (arith, nat_tests) in omega arith) ]

  end_parts : (p : ℕ) → one (is_some (h p)) ≡ 1 → Parts top n (f + 1) q (change p None h)
  end_parts p e = record {
    once = λ y. (let r = s.once y in elim (cases_eq y p) [ inl d ↦ (let w : one (is_some (change p None h y)) ≡ 0 = subst (λ t. one (is_some (change p None h t)) ≡ 0) (sym d) (ap (λ (t : Option (List ℕ)). one (is_some t)) (change_here p None h)) in omega arith) | inr ne ↦ (let w : one (is_some (change p None h y)) ≡ one (is_some (h y)) = ap (λ (t : Option (List ℕ)). one (is_some t)) (change_there p y None h ne) in omega arith) ]);
    all = omega (arith, s.all, hand_sum top p None h (hand_below p e), e);
  }

fresh_parts : (top n : ℕ) (q : ℕ → ℕ → List Queued) (h : ℕ → Option (List ℕ)) → ((l d : ℕ) → q l d ≡ []) → ((p : ℕ) → h p ≡ None) → Parts top n top q h
fresh_parts top n q h a b = record {
  once = λ p. omega (arith, queue_none n (λ hs. count p (places hs)) q (λ i j. ap (λ (hs : List Queued). count p (places hs)) (a i j)), ap (λ (o : Option (List ℕ)). one (is_some o)) (b p));
  all = omega (arith, queue_none n (λ hs. length hs) q (λ i j. ap (λ (hs : List Queued). length hs) (a i j)), sum_same top (λ p. one (is_some (h p))) (λ _. 0) (λ p l. ap (λ (o : Option (List ℕ)). one (is_some o)) (b p)), sum_none top);
}

module _ (top n : ℕ) (m : Model) (s : Sound top n m) where
  put_sound : (l d p : ℕ) (o : List ℕ) → l < n → d < 2 → 0 < m.free → p < top → hand_in m.hands p ≡ None → ((i j : ℕ) → count p (places (queue_in m.queues i j)) ≡ 0) → Sound top n (put_in l d p o m)
  put_sound l d p o a b f c un fr = record { links = s.links; parts = rw (queue_insert m.queues l d (queue_in m.queues l d ++ queued p o ∷ [])) (put_parts top n m.free (queue_in m.queues) (hand_in m.hands) s.parts l d p o a b f c un fr) }

  take_sound : (l d : ℕ) (x : Queued) (xs : List Queued) → l < n → d < 2 → queue_in m.queues l d ≡ x ∷ xs → Sound top n (taken_as l d (x ∷ xs) m)
  take_sound l d x xs a b e = record { links = s.links; parts = rw (queue_insert m.queues l d xs, hand_insert m.hands x.place x.octets) (take_parts top n m.free (queue_in m.queues) (hand_in m.hands) s.parts l d x xs a b e) }

  pass_sound : (l d p : ℕ) (o : List ℕ) → l < n → d < 2 → hand_in m.hands p ≡ Some o → Sound top n (passed_as l d p (Some o) m)
  pass_sound l d p o a b e = record { links = s.links; parts = rw (queue_insert m.queues l d (queue_in m.queues l d ++ queued p o ∷ []), hand_remove m.hands p) (pass_parts top n m.free (queue_in m.queues) (hand_in m.hands) s.parts l d p o a b e) }

  end_sound : (p : ℕ) → one (is_some (hand_in m.hands p)) ≡ 1 → Sound top n (freed p m)
  end_sound p e = record { links = s.links; parts = rw (hand_remove m.hands p) (end_parts top n m.free (queue_in m.queues) (hand_in m.hands) s.parts p e) }

in_hand_one : (t : InHand) (m : Model) → in_hand t m ≡ true → one (is_some (hand_in m.hands t.place)) ≡ 1
in_hand_one t m e = ap one (and_parts (eqb t.store m.number) (is_some (hand_in m.hands t.place)) e).1

step_sound : (n : ℕ) (c : Call) (m : Model) → Sound 128 n m → Fits c m → Sound 128 n (step c m)
step_sound n (puts l d o p) m s fits = cond_both (put_goes l d o m) (put_in l d p o m) m (λ x. Sound 128 n x) (λ e. go e (fits e)) (λ e. s)
  where
    go : put_goes l d o m ≡ true → FreeAt p m → Sound 128 n (put_in l d p o m)
    go e f =
        let k = s.links in
        let a : l < n = grind (arith, nat_tests) in
        let b : d < 2 = grind (arith, nat_tests) in
        let z : 0 < m.free = grind (arith, nat_tests) in
        put_sound 128 n m s l d p o a b z f.below f.unheld f.unqueued
step_sound n (takes l d) m s fits = cond_both (is_link l d m) (taken_as l d (queue_in m.queues l d) m) m (λ x. Sound 128 n x) (λ e. go e (queue_in m.queues l d) refl) (λ e. s)
  where
    go : is_link l d m ≡ true → (xs : List Queued) → queue_in m.queues l d ≡ xs → Sound 128 n (taken_as l d xs m)
    go e [] q = s
    go e (x ∷ xs) q =
        let k = s.links in
        let a : l < n = grind (arith, nat_tests) in
        let b : d < 2 = grind (arith, nat_tests) in
        take_sound 128 n m s l d x xs a b q
step_sound n (passes t l d) m s fits = cond_both (is_link l d m && in_hand t m) (passed_as l d t.place (hand_in m.hands t.place) m) m (λ x. Sound 128 n x) (λ e. go e (hand_in m.hands t.place) refl) (λ e. s)
  where
    go : (is_link l d m && in_hand t m) ≡ true → (o : Option (List ℕ)) → hand_in m.hands t.place ≡ o → Sound 128 n (passed_as l d t.place o m)
    go e None q = s
    go e (Some o) q =
        let k = s.links in
        let a : l < n = grind (arith, nat_tests) in
        let b : d < 2 = grind (arith, nat_tests) in
        pass_sound 128 n m s l d t.place o a b q
step_sound n (spends t) m s fits = cond_both (in_hand t m) (freed t.place m) m (λ x. Sound 128 n x) (λ e. end_sound 128 n m s t.place (in_hand_one t m e)) (λ e. s)

pub run_sound : (k n : ℕ) (h : List Call) → Allowed k n h → Sound 128 n (run k n h)
run_sound k n [] ok = record { links = refl; parts = fresh_parts 128 n (queue_in (fresh k n).queues) (hand_in (fresh k n).hands) (λ l d. queue_or_none (λ _ _. []) (λ hs. hs ≡ []) n l d refl refl) hand_empty }
run_sound k n (c ∷ h) ok = step_sound n c (run k n h) (run_sound k n h ok.1) ok.0

pub none_twice : NoneTwice
none_twice k n h ok p = let s = run_sound k n h ok in subst (λ x. stands x (queue_in (run k n h).queues) (hand_in (run k n h).hands) p ≤ one (ltb p 128)) (sym s.links) (s.parts.once p)

pub all_places : AllPlaces
unfolding in_hands
all_places k n h ok = let s = run_sound k n h ok in subst (λ x. waits x (queue_in (run k n h).queues) + hands_to 128 (run k n h) + (run k n h).free ≡ 128) (sym s.links) s.parts.all

pub finds_room : FindsRoom
finds_room k n h ok l d o good on less =
    let a = all_places k n h ok in
    let m : Model = run k n h in
    let f : eqb (run k n h).free 0 ≡ false = grind (arith, nat_tests) in
    answered (wrong_length o) (run k n h).links l d (run k n h).free good on f
  where
    answered : (w : Bool) (n l d f : ℕ) → w ≡ false → (ltb l n && ltb d 2) ≡ true → eqb f 0 ≡ false → cond w (Err FrameSize) (cond (leb n l) (Err NoSuchLink) (cond (leb 2 d) (Err NoSuchDirection) (Ok (cond (eqb f 0) Lost Waits)))) ≡ Ok Waits
    answered w n l d f a b c =
        let x : leb n l ≡ false = grind (arith, nat_tests) in
        let y : leb 2 d ≡ false = grind (arith, nat_tests) in
        rw (a, x, y, c)
