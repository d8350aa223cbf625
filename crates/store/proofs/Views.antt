-- What a move does to the model.
use Rattle.std.proofs.Common.{◌≡◌, ℕ, ◌-◌, ◌<◌, ◌≤◌, Bool, true, false, cond, ◌&&◌, eqb, ltb, ◌≢◌, List, [], ◌∷◌, ◌++◌, map, length, get_or, set, Some, None, Option, refl, ap, ◌∙◌, inl, inr, arith, get_or-set_other, get_or-set_same}
use Rattle.std.proofs.lemmas.Bool.Decides.{nat_tests}
use Rattle.std.proofs.lemmas.Bool.{cases_eq, cases_lt}
use Rattle.std.proofs.lemmas.List.{map_push, length_push}
use Rattle.store.specs.Chains.{Spots, OnceEach, popped_as, pushed, all_free}
use Rattle.store.specs.Counting.{change, change2, count, one}
use Rattle.store.specs.Contents.{contents, no_frame}
use Rattle.store.specs.Maps.{Queued, queued, Queues, Hands, queue_in}
use Rattle.store.specs.Model.{mk_model, fresh, put_in, FreeAt, places, taken_as, passed_as, freed}
use Rattle.store.specs.View.{lane, queued_at, queue_of, hand_of, model_of}
use Rattle.store.specs.declared.frame.Frame.{Frame}
use Rattle.store.proofs.Maps.{queue_at, queue_or_none, queues_same, queues_change, hand_at, no_hands, hands_same, hands_more, hands_less}
use Rattle.store.proofs.Standing.{change_here, change_there, within, apart}

model_same : (k n f g : ℕ) (q r : Queues) (h i : Hands) → f ≡ g → q ≡ r → h ≡ i → mk_model k n f q h ≡ mk_model k n g r i
model_same k n f g q r h i a b c = ap (λ x. mk_model k n x q h) a ∙ ap (λ (x : Queues). mk_model k n g x h) b ∙ ap (λ (x : Hands). mk_model k n g r x) c

lane_eq : (l d i j : ℕ) → d < 2 → j < 2 → eqb (lane l d) (lane i j) ≡ (eqb l i && eqb d j)
lane_eq l d i j a b = grind (arith, nat_tests)

-- one queue changed
queue_change : (fs : List Frame) (l d : ℕ) → d < 2 → (xs : List ℕ) (f : ℕ → List ℕ) (i j : ℕ) → j < 2 → queue_of (change (lane l d) xs f) fs i j ≡ change2 l d (map (queued_at fs) xs) (queue_of f fs) i j
queue_change fs l d a xs f i j b = rw (lane_eq l d i j a b) (either (eqb l i && eqb d j))
  where
    either : (t : Bool) → map (queued_at fs) (cond t xs (f (lane i j))) ≡ cond t (map (queued_at fs) xs) (map (queued_at fs) (f (lane i j)))
    either true = refl
    either false = refl

-- the free list is no queue
queue_zero : (fs : List Frame) (xs : List ℕ) (f : ℕ → List ℕ) (i j : ℕ) → queue_of (change 0 xs f) fs i j ≡ queue_of f fs i j
queue_zero fs xs f i j = let ne : lane i j ≢ 0 = omega arith in rw (change_there 0 (lane i j) xs f ne)

hands_in : (fs : List Frame) (p : ℕ) (h : ℕ → Bool) (j : ℕ) → hand_of (change p true h) fs j ≡ change p (Some (contents (get_or fs p no_frame))) (hand_of h fs) j
hands_in fs p h j = elim (cases_eq j p) [ inl e ↦ rw (e, change_here p true h, change_here p (Some (contents (get_or fs p no_frame))) (hand_of h fs)) | inr ne ↦ rw (change_there p j true h ne, change_there p j (Some (contents (get_or fs p no_frame))) (hand_of h fs) ne) ]

hands_out : (fs : List Frame) (p : ℕ) (h : ℕ → Bool) (j : ℕ) → hand_of (change p false h) fs j ≡ change p None (hand_of h fs) j
hands_out fs p h j = elim (cases_eq j p) [ inl e ↦ rw (e, change_here p false h, change_here p None (hand_of h fs)) | inr ne ↦ rw (change_there p j false h ne, change_there p j None (hand_of h fs) ne) ]

-- a frame that is not in the list may be filled
map_away : (fs : List Frame) (x : ℕ) (v : Frame) (xs : List ℕ) → count x xs ≡ 0 → map (queued_at (set fs x v)) xs ≡ map (queued_at fs) xs
map_away fs x v [] e = refl
map_away fs x v (y ∷ xs) e =
    let ne : y ≢ x = grind (arith, nat_tests) in
    let r : count x xs ≡ 0 = grind (arith, nat_tests) in
    rw (get_or-set_other fs x y v no_frame ne) (ap (λ (hs : List Queued). queued_at fs y ∷ hs) (map_away fs x v xs r))

pub places_held : (fs : List Frame) (xs : List ℕ) → places (map (queued_at fs) xs) ≡ xs
places_held fs [] = refl
places_held fs (x ∷ xs) = ap (λ (ys : List ℕ). x ∷ ys) (places_held fs xs)

abbrev pub Beyond : Spots → Type 0
Beyond s = (q : ℕ) → 101 ≤ q → s.lanes q ≡ []

pub new_model : (k n : ℕ) (fs : List Frame) (s : Spots) → s ≡ all_free → length (all_free.lanes 0) ≡ 128 → model_of k n s fs ≡ fresh k n
new_model k n fs s e len = ap (λ (x : Spots). model_of k n x fs) e ∙ model_same k n _ _ _ _ _ _ len (queues_same (λ _ _. []) (queue_of all_free.lanes fs) n (λ l d b. queue_zero fs (all_free.lanes 0) (λ _. []) l d)) (no_hands (hand_of all_free.hand fs) (λ p. refl))

module _ (k n : ℕ) (s : Spots) (fs : List Frame) (once : OnceEach s) (past : Beyond s) where
  -- the first of list q stands in no other list, and is not in hand
  module _ (q x : ℕ) (xs : List ℕ) (l : q < 101) (e : s.lanes q ≡ x ∷ xs) where
    there : 1 ≤ count x (s.lanes q)
    there = rw e (grind (arith, nat_tests))

    pub x_below : x < 128
    x_below = let a = there in let b = within s once q x l in grind (arith, nat_tests)

    pub x_unheld : s.hand x ≡ false
    x_unheld = let a = there in let b = within s once q x l in let c : one (ltb x 128) ≤ 1 = grind (arith, nat_tests) in go (s.hand x) (omega arith)
      where
        go : (b : Bool) → one b ≡ 0 → b ≡ false
        go true z = absurd (omega arith)
        go false z = refl

    pub x_apart : (j : ℕ) → j ≢ q → count x (s.lanes j) ≡ 0
    x_apart j ne = elim (cases_lt j 101) [ inl m ↦ (let a = there in let b = apart s once q j x ne l m in let c : one (ltb x 128) ≤ 1 = grind (arith, nat_tests) in omega arith) | inr m ↦ rw (past j m) ]

  pub free_at : (x : ℕ) (xs : List ℕ) → s.lanes 0 ≡ x ∷ xs → FreeAt x (model_of k n s fs)
  free_at x xs e = record {
    below = x_below 0 x xs (omega arith) e;
    unheld = hand_at (hand_of s.hand fs) x ∙ rw (x_unheld 0 x xs (omega arith) e) (none (ltb x 128));
    unqueued = λ l d. queue_or_none (queue_of s.lanes fs) (λ hs. count x (places hs) ≡ 0) n l d refl (rw (places_held fs (s.lanes (lane l d))) (x_apart 0 x xs (omega arith) e (lane l d) (omega arith)));
  }
    where
      none : (b : Bool) → ◌≡◌ {A = Option (List ℕ)} (cond b None None) None
      none true = refl
      none false = refl

  change2_same : (l d : ℕ) (a b : List Queued) (q r : ℕ → ℕ → List Queued) (i j : ℕ) → a ≡ b → q i j ≡ r i j → change2 l d a q i j ≡ change2 l d b r i j
  change2_same l d a b q r i j e f = ap (λ x. cond (eqb l i && eqb d j) x (q i j)) e ∙ ap (λ x. cond (eqb l i && eqb d j) b x) f

  -- what waits in a direction
  module _ (l d : ℕ) (la : l < n) (db : d < 2) where
    queue_here : queue_in (model_of k n s fs).queues l d ≡ map (queued_at fs) (s.lanes (lane l d))
    queue_here = queue_at (queue_of s.lanes fs) n l d la db

    -- a place is free, filled, and joins a queue
    pub put_model : (x : ℕ) (xs o : List ℕ) (v : Frame) → lane l d < 101 → s.lanes 0 ≡ x ∷ xs → x < length fs → contents v ≡ o → model_of k n (pushed (lane l d) x (popped_as 0 (x ∷ xs) s)) (set fs x v) ≡ put_in l d x o (model_of k n s fs)
    put_model x xs o v lb e xb c = model_same k n _ _ _ _ _ _ free (queues_change n l d _ (queue_of s.lanes fs) (queue_of (change q (g q ++ x ∷ []) g) (set fs x v)) la db waits) (hands_same (hand_of s.hand fs) (hand_of (change x false (change x true s.hand)) (set fs x v)) hands)
      where
        q : ℕ
        q = lane l d

        g : ℕ → List ℕ
        g = change 0 xs s.lanes

        q_not : q ≢ 0
        q_not = λ z. absurd (omega arith)

        g_q : g q ≡ s.lanes q
        g_q = change_there 0 q xs s.lanes q_not

        free : length (change q (g q ++ x ∷ []) g 0) ≡ length (s.lanes 0) - 1
        free = let z : 0 ≢ q = λ y. absurd (omega arith) in rw (change_there q 0 (g q ++ x ∷ []) g z, change_here 0 xs s.lanes) (omega (arith, ap length e))

        joins : map (queued_at (set fs x v)) (g q ++ x ∷ []) ≡ queue_in (model_of k n s fs).queues l d ++ queued x o ∷ []
        joins =
            rw (g_q, map_push (queued_at (set fs x v)) (s.lanes q) x, map_away fs x v (s.lanes q) (x_apart 0 x xs (omega arith) e q q_not), get_or-set_same fs x v no_frame xb, c, queue_here)

        waits : (i j : ℕ) → j < 2 → queue_of (change q (g q ++ x ∷ []) g) (set fs x v) i j ≡ change2 l d (queue_in (model_of k n s fs).queues l d ++ queued x o ∷ []) (queue_of s.lanes fs) i j
        waits i j jb = queue_change (set fs x v) l d db (g q ++ x ∷ []) g i j jb ∙ change2_same l d (map (queued_at (set fs x v)) (g q ++ x ∷ [])) (queue_in (model_of k n s fs).queues l d ++ queued x o ∷ []) (queue_of g (set fs x v)) (queue_of s.lanes fs) i j joins (queue_zero (set fs x v) xs s.lanes i j ∙ map_away fs x v (s.lanes (lane i j)) (x_apart 0 x xs (omega arith) e (lane i j) (omega arith)))

        hands : (j : ℕ) → hand_of (change x false (change x true s.hand)) (set fs x v) j ≡ hand_of s.hand fs j
        hands j = elim (cases_eq j x) [ inl d ↦ rw (d, change_here x false (change x true s.hand), x_unheld 0 x xs (omega arith) e) | inr ne ↦ rw (change_there x j false (change x true s.hand) ne, change_there x j true s.hand ne, get_or-set_other fs x j v no_frame ne) ]

    -- the first of a queue comes into the hand
    pub take_model : (x : ℕ) (xs : List ℕ) → lane l d < 101 → s.lanes (lane l d) ≡ x ∷ xs → model_of k n (popped_as (lane l d) (x ∷ xs) s) fs ≡ taken_as l d (map (queued_at fs) (x ∷ xs)) (model_of k n s fs)
    take_model x xs lb e = model_same k n _ _ _ _ _ _ (let z : 0 ≢ lane l d = λ y. absurd (omega arith) in rw (change_there (lane l d) 0 xs s.lanes z)) (queues_change n l d _ (queue_of s.lanes fs) (queue_of (change (lane l d) xs s.lanes) fs) la db (queue_change fs l d db xs s.lanes)) (hands_more (hand_of s.hand fs) (hand_of (change x true s.hand) fs) x _ (x_below (lane l d) x xs lb e) (hands_in fs x s.hand))

    -- a frame in hand joins a queue
    pub pass_model : (p : ℕ) → s.hand p ≡ true → model_of k n (pushed (lane l d) p s) fs ≡ passed_as l d p (hand_of s.hand fs p) (model_of k n s fs)
    pass_model p h = rw h (model_same k n _ _ _ _ _ _ (let z : 0 ≢ lane l d = λ y. absurd (omega arith) in rw (change_there (lane l d) 0 (s.lanes (lane l d) ++ p ∷ []) s.lanes z)) (queues_change n l d _ (queue_of s.lanes fs) (queue_of (change (lane l d) (s.lanes (lane l d) ++ p ∷ []) s.lanes) fs) la db (λ i j jb. queue_change fs l d db (s.lanes (lane l d) ++ p ∷ []) s.lanes i j jb ∙ change2_same l d (map (queued_at fs) (s.lanes (lane l d) ++ p ∷ [])) (queue_in (model_of k n s fs).queues l d ++ queued_at fs p ∷ []) (queue_of s.lanes fs) (queue_of s.lanes fs) i j (rw (map_push (queued_at fs) (s.lanes (lane l d)) p, queue_here)) refl)) (hands_less (hand_of s.hand fs) (hand_of (change p false s.hand) fs) p (hands_out fs p s.hand)))

  -- a frame in hand is spent
  pub end_model : (p : ℕ) → model_of k n (pushed 0 p s) fs ≡ freed p (model_of k n s fs)
  end_model p = model_same k n _ _ _ _ _ _ (rw (change_here 0 (s.lanes 0 ++ p ∷ []) s.lanes) (length_push (s.lanes 0) p)) (queues_same (queue_of s.lanes fs) (queue_of (change 0 (s.lanes 0 ++ p ∷ []) s.lanes) fs) n (λ i j jb. queue_zero fs (s.lanes 0 ++ p ∷ []) s.lanes i j)) (hands_less (hand_of s.hand fs) (hand_of (change p false s.hand) fs) p (hands_out fs p s.hand))
