-- Each call does to a store without its places what its definition says.
use Rattle.std.proofs.Common.{◌≡◌, ℕ, ◌-◌, Bool, true, false, cond, ◌&&◌, eqb, List, [], ◌∷◌, ◌++◌, Some, refl, ap, ◌∙◌}
use mathlib.Core.Path.{fun_ext}
use Rattle.std.proofs.lemmas.List.{map_push}
use Rattle.store.specs.declared.hand.InHand.{InHand}
use Rattle.std.specs.FinMap as map
use Rattle.store.proofs.Maps.{queue_after}
use Rattle.store.specs.Counting.{change2}
use Rattle.store.specs.Laws.{contents_of}
use Rattle.store.specs.Loads.{load, load_of, joins, put_load, leaves, take_load, pass_load, spend_load}
use Rattle.store.specs.Maps.{Queued, queued, queue_in, hand_in}
use Rattle.store.specs.Model.{Model, is_link, put_goes, put_in, put_after, taken_as, take_after, in_hand, passed_as, pass_after, spend_after}

load_same : (n f : ℕ) (q r : ℕ → ℕ → List (List ℕ)) → ((l d : ℕ) → q l d ≡ r l d) → load n f q ≡ load n f r
load_same n f q r e = ap (load n f) (fun_ext (λ l. fun_ext (e l)))

-- one queue changed
contents_change : (l d : ℕ) (v : List Queued) (q : ℕ → ℕ → List Queued) (i j : ℕ) → contents_of (change2 l d v q i j) ≡ change2 l d (contents_of v) (λ x y. contents_of (q x y)) i j
contents_change l d v q i j = go (eqb l i && eqb d j)
  where
    go : (b : Bool) → contents_of (cond b v (q i j)) ≡ cond b (contents_of v) (contents_of (q i j))
    go true = refl
    go false = refl

-- a frame joins one queue
joined : (l d f p : ℕ) (o : List ℕ) (m : Model) → load m.links f (λ i j. contents_of (queue_in (map.insert m.queues (l, d) (queue_in m.queues l d ++ queued p o ∷ [])) i j)) ≡ joins l d o f (load_of m)
joined l d f p o m = load_same m.links f _ _ (λ i j. ap contents_of (queue_after m.queues l d (queue_in m.queues l d ++ queued p o ∷ []) i j) ∙ contents_change l d (queue_in m.queues l d ++ queued p o ∷ []) (queue_in m.queues) i j ∙ ap (λ (v : List (List ℕ)). change2 l d v (λ x y. contents_of (queue_in m.queues x y)) i j) (map_push (λ h. h.octets) (queue_in m.queues l d) (queued p o)))

pub put_load_lem : (l d : ℕ) (o : List ℕ) (p : ℕ) (m : Model) → load_of (put_after l d o p m) ≡ put_load l d o (load_of m)
put_load_lem l d o p m = go (put_goes l d o m)
  where
    go : (b : Bool) → load_of (cond b (put_in l d p o m) m) ≡ cond b (joins l d o (m.free - 1) (load_of m)) (load_of m)
    go true = joined l d (m.free - 1) p o m
    go false = refl

pub take_load_lem : (l d : ℕ) (m : Model) → load_of (take_after l d m) ≡ take_load l d (load_of m)
take_load_lem l d m = go (is_link l d m) (queue_in m.queues l d)
  where
    go : (b : Bool) (hs : List Queued) → load_of (cond b (taken_as l d hs m) m) ≡ cond b (leaves l d (contents_of hs) (load_of m)) (load_of m)
    go true [] = refl
    go true (h ∷ hs) = load_same m.links m.free _ _ (λ i j. ap contents_of (queue_after m.queues l d hs i j) ∙ contents_change l d hs (queue_in m.queues) i j)
    go false hs = refl

-- a frame in hand with the octets o
module _ (t : InHand) (o : List ℕ) (m : Model) (i : in_hand t m ≡ true) where
  pub pass_load_lem : (l d : ℕ) → hand_in m.hands t.place ≡ Some o → load_of (pass_after t l d m) ≡ pass_load l d o (load_of m)
  pass_load_lem l d e = rw (i, e) (go (is_link l d m))
    where
      go : (b : Bool) → load_of (cond (b && true) (passed_as l d t.place (Some o) m) m) ≡ cond b (joins l d o m.free (load_of m)) (load_of m)
      go true = joined l d m.free t.place o m
      go false = refl

  pub spend_load_lem : load_of (spend_after t m) ≡ spend_load (load_of m)
  spend_load_lem = rw i
