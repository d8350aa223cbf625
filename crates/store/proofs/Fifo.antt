-- First in, first out.
use Rattle.std.proofs.Common.{◌≡◌, ℕ, Bool, true, false, cond, ◌&&◌, eqb, List, [], ◌∷◌, ◌++◌, Some, None, Option, sym, refl, ap, ◌∙◌, append_assoc}
use Rattle.std.proofs.lemmas.Bool.{eqb-true, and_parts}
use Rattle.std.proofs.lemmas.List.{map_push, append-nil}
use Rattle.store.specs.Counting.{change2}
use Rattle.store.specs.Maps.{Queued, queued, queue_in, hand_in}
use Rattle.store.specs.Model.{Model, is_link, put_goes, put_in, taken_as, in_hand, passed_as, freed}
use Rattle.store.proofs.Maps.{queue_after, queue_or_none}
use Rattle.store.specs.Laws.{Call, puts, takes, passes, spends, step, run, contents_of, listed, first_in, brings, draws, all_drawn, FirstOut}

-- a frame joins one queue
joined : (i j l d : ℕ) (q : ℕ → ℕ → List Queued) (x : Queued) → contents_of (q l d) ++ cond (eqb i l && eqb j d) (x.octets ∷ []) [] ≡ contents_of (change2 i j (q i j ++ x ∷ []) q l d)
joined i j l d q x = go (eqb i l && eqb j d) refl
  where
    go : (b : Bool) → (eqb i l && eqb j d) ≡ b → contents_of (q l d) ++ cond b (x.octets ∷ []) [] ≡ contents_of (cond b (q i j ++ x ∷ []) (q l d))
    go true e =
        let a : i ≡ l = eqb-true i l (and_parts (eqb i l) (eqb j d) e).0 in
        let b : j ≡ d = eqb-true j d (and_parts (eqb i l) (eqb j d) e).1 in
        rw (map_push (λ h. h.octets) (q i j) x, a, b)
    go false e = append-nil (contents_of (q l d))

-- the first of one queue leaves
left : (i j l d : ℕ) (q : ℕ → ℕ → List Queued) (x : Queued) (xs : List Queued) → q i j ≡ x ∷ xs → contents_of (q l d) ++ [] ≡ cond (eqb i l && eqb j d) (first_in (q l d)) [] ++ contents_of (change2 i j xs q l d)
left i j l d q x xs f = append-nil (contents_of (q l d)) ∙ go (eqb i l && eqb j d) refl
  where
    go : (b : Bool) → (eqb i l && eqb j d) ≡ b → contents_of (q l d) ≡ cond b (first_in (q l d)) [] ++ contents_of (cond b xs (q l d))
    go true e =
        let a : i ≡ l = eqb-true i l (and_parts (eqb i l) (eqb j d) e).0 in
        let b : j ≡ d = eqb-true j d (and_parts (eqb i l) (eqb j d) e).1 in
        let g : q l d ≡ x ∷ xs = rw (a, b) at f in
        rw g
    go false e = refl

moves : (l d : ℕ) (c : Call) (m : Model) → contents_of (queue_in m.queues l d) ++ brings l d c m ≡ draws l d c m ++ contents_of (queue_in (step c m).queues l d)
moves l d (puts i j o p) m = go (put_goes i j o m)
  where
    go : (b : Bool) → contents_of (queue_in m.queues l d) ++ cond b (cond (eqb i l && eqb j d) (o ∷ []) []) [] ≡ contents_of (queue_in (cond b (put_in i j p o m) m).queues l d)
    go true = rw (queue_after m.queues i j (queue_in m.queues i j ++ queued p o ∷ []) l d) (joined i j l d (queue_in m.queues) (queued p o))
    go false = append-nil (contents_of (queue_in m.queues l d))
moves l d (takes i j) m = go (is_link i j m) (queue_in m.queues i j) refl
  where
    go : (b : Bool) (xs : List Queued) → queue_in m.queues i j ≡ xs → contents_of (queue_in m.queues l d) ++ [] ≡ cond b (cond (eqb i l && eqb j d) (first_in (queue_in m.queues l d)) []) [] ++ contents_of (queue_in (cond b (taken_as i j xs m) m).queues l d)
    go true [] e = append-nil (contents_of (queue_in m.queues l d)) ∙ none (eqb i l && eqb j d) refl
      where
        none : (b : Bool) → (eqb i l && eqb j d) ≡ b → contents_of (queue_in m.queues l d) ≡ cond b (first_in (queue_in m.queues l d)) [] ++ contents_of (queue_in m.queues l d)
        none true t =
            let a : i ≡ l = eqb-true i l (and_parts (eqb i l) (eqb j d) t).0 in
            let b : j ≡ d = eqb-true j d (and_parts (eqb i l) (eqb j d) t).1 in
            let g : queue_in m.queues l d ≡ [] = rw (a, b) at e in
            rw g
        none false t = refl
    go true (x ∷ xs) e = rw (queue_after m.queues i j xs l d) (left i j l d (queue_in m.queues) x xs e)
    go false xs e = append-nil (contents_of (queue_in m.queues l d))
moves l d (passes t i j) m = go (is_link i j m && in_hand t m) (hand_in m.hands t.place)
  where
    go : (b : Bool) (o : Option (List ℕ)) → contents_of (queue_in m.queues l d) ++ cond b (cond (eqb i l && eqb j d) (listed o) []) [] ≡ contents_of (queue_in (cond b (passed_as i j t.place o m) m).queues l d)
    go true None = none (eqb i l && eqb j d)
      where
        none : (b : Bool) → contents_of (queue_in m.queues l d) ++ cond b [] [] ≡ contents_of (queue_in m.queues l d)
        none true = append-nil (contents_of (queue_in m.queues l d))
        none false = append-nil (contents_of (queue_in m.queues l d))
    go true (Some o) = rw (queue_after m.queues i j (queue_in m.queues i j ++ queued t.place o ∷ []) l d) (joined i j l d (queue_in m.queues) (queued t.place o))
    go false o = append-nil (contents_of (queue_in m.queues l d))
moves l d (spends t) m = go (in_hand t m)
  where
    go : (b : Bool) → contents_of (queue_in m.queues l d) ++ [] ≡ contents_of (queue_in (cond b (freed t.place m) m).queues l d)
    go true = append-nil (contents_of (queue_in m.queues l d))
    go false = append-nil (contents_of (queue_in m.queues l d))

pub first_out : FirstOut
first_out k n [] l d = queue_or_none (λ _ _. []) (λ hs. [] ≡ contents_of hs) n l d refl refl
first_out k n (c ∷ h) l d =
    let m : Model = run k n h in
    ap (λ (xs : List (List ℕ)). xs ++ brings l d c m) (first_out k n h l d)
    ∙ append_assoc (all_drawn k n l d h) (contents_of (queue_in m.queues l d)) (brings l d c m)
    ∙ ap (λ (xs : List (List ℕ)). all_drawn k n l d h ++ xs) (moves l d c m)
    ∙ sym (append_assoc (all_drawn k n l d h) (draws l d c m) (contents_of (queue_in (step c m).queues l d)))
