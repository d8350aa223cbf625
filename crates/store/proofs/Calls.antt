-- What each call answers and leaves, from what its moves did.
use Rattle.std.proofs.Common.{◌≡◌, ℕ, ◌<◌, ◌≤◌, Bool, true, false, cond, ◌&&◌, eqb, ltb, List, [], ◌∷◌, map, length, get_or, set, is_some as option_is_some, Some, None, Ok, Err, Option, not, sym, refl, ap, ◌∙◌, arith}
use Rattle.std.proofs.lemmas.Bool.{eq-eqb, lt-ltb, and_parts}
use Rattle.std.proofs.lemmas.List.{get_or_past, length-map}
use Rattle.store.specs.declared.hand.InHand.{InHand}
use Rattle.store.specs.declared.chains.Chains.{Chains}
use Rattle.store.specs.declared.frame.Frame.{Frame}
use Rattle.store.specs.declared.store.Store.TheInside.{Inside}
use Rattle.store.specs.Counting.{one}
use Rattle.store.specs.Laws.{in_hands}
use Rattle.store.specs.Chains.{no_lane, Spots, holdings, first_of, popped, popped_as, pushed}
use Rattle.store.specs.Spots.{spots}
use Rattle.store.specs.Contents.{contents, no_frame}
use Rattle.store.specs.Maps.{Queued, queue_in, hand_in, all_hands}
use Rattle.refusal.specs.declared.Refusal.TheVariants.{NothingWaits, NotInHand}
use Rattle.store.specs.Model.{Model, refuses, wrong_length, put_goes, PutInto, token_of, take_answer, take_after, taken_as, in_hand, handed_back, pass_answer, passed_as, pass_after, spend_answer, freed, spend_after, handed, octets_answer, waiting_answer}
use Rattle.store.specs.Stores.{model, Whole}
use Rattle.store.specs.View.{lane, lane_answer, is_held, held_answer, queued_at, queue_of, hand_of, model_of}
use Rattle.store.proofs.Maps.{hand_at, queue_at}
use Rattle.store.proofs.Moves.{held_below}
use Rattle.store.proofs.Lanes.{There, found, on_link_lem, is_link_lem}
use Rattle.store.proofs.Standing.{change_here, sum_same}
use Rattle.store.proofs.Views.{Beyond, put_model, take_model, pass_model, end_model, free_at, x_below}

-- what the store holds with other chains and frames
abbrev pub turned : Inside → Chains → List Frame → Model
turned s c fs = model_of s.number s.links (spots c) fs

beyond : (c : Chains) → Beyond (spots c)
beyond c q l = let b : length c.lanes ≤ q = omega (arith, c.lists) in rw (get_or_past c.lanes q no_lane b)

-- the frame in hand at a place
module _ (c : Chains) (fs : List Frame) (p : ℕ) where
  hand_here : hand_in (all_hands (hand_of (spots c).hand fs)) p ≡ hand_of (spots c).hand fs p
  hand_here = go ((spots c).hand p) refl
    where
      none : (b : Bool) (o : Option (List ℕ)) → o ≡ None → cond b o None ≡ None
      none true o n = n
      none false o n = refl

      go : (b : Bool) → (spots c).hand p ≡ b → hand_in (all_hands (hand_of (spots c).hand fs)) p ≡ hand_of (spots c).hand fs p
      go true e = hand_at (hand_of (spots c).hand fs) p ∙ rw (lt-ltb p 128 (held_below c p e))
      go false e = hand_at (hand_of (spots c).hand fs) p ∙ rw e (none (ltb p 128) None refl)

  held_some : option_is_some (hand_in (all_hands (hand_of (spots c).hand fs)) p) ≡ (spots c).hand p
  held_some = ap option_is_some hand_here ∙ go ((spots c).hand p)
    where
      go : (b : Bool) → option_is_some (cond b (Some (contents (get_or fs p no_frame))) None) ≡ b
      go true = refl
      go false = refl

not_some : (xs : List ℕ) → None ≡ first_of xs → xs ≡ []
not_some [] e = refl
not_some (x ∷ xs) e = cc

-- the others of a list
abbrev tail_of : List ℕ → List ℕ
tail_of [] = []
tail_of (x ∷ xs) = xs

is_some : (xs : List ℕ) (p : ℕ) → Some p ≡ first_of xs → xs ≡ p ∷ tail_of xs
is_some [] p e = cc
is_some (x ∷ xs) p e = let d : x ≡ p = cc in ap (λ y. y ∷ xs) d

module _ (s : Inside) (whole : Whole s) where
  -- the first place of a list
  module _ (q p : ℕ) (f : Some p ≡ first_of ((spots s.chains).lanes q)) where
    pub first_held : (popped q (spots s.chains)).hand p ≡ true
    first_held = let e = is_some ((spots s.chains).lanes q) p f in rw e (change_here p true (spots s.chains).hand)

    pub first_below : q < 101 → p < length s.frames
    first_below l = omega (arith, whole.long, x_below s.number s.links (spots s.chains) s.frames s.chains.once (beyond s.chains) q p (tail_of ((spots s.chains).lanes q)) l (is_some ((spots s.chains).lanes q) p f))

    -- it is in hand once it is popped
    pub first_in_hand : (c : Chains) → spots c ≡ popped q (spots s.chains) → in_hand (record { store = s.number; place = p }) (turned s c s.frames) ≡ true
    first_in_hand c g = rw (eq-eqb s.number s.number refl, held_some c s.frames p) (ap (λ (x : Spots). x.hand p) g ∙ first_held)

  -- a frame in hand, as the lists have it
  module _ (t : InHand) where
    pub held_in_hand : is_held t s.number (spots s.chains) ≡ in_hand t (model s)
    held_in_hand = ap (λ b. eqb t.store s.number && b) (sym (held_some s.chains s.frames t.place))

    -- what spending it answers
    pub spent_answer : held_answer t (is_held t s.number (spots s.chains)) ≡ spend_answer t (model s)
    spent_answer = ap (held_answer t) held_in_hand

    -- and its octets
    octets_held : cond (is_held t s.number (spots s.chains)) (Ok (contents (get_or s.frames t.place no_frame))) (Err NotInHand) ≡ octets_answer t (model s)
    octets_held = rw (hand_here s.chains s.frames t.place) (go (eqb t.store s.number) ((spots s.chains).hand t.place))
      where
        go : (a b : Bool) → cond (a && b) (Ok (contents (get_or s.frames t.place no_frame))) (Err NotInHand) ≡ cond a (handed (cond b (Some (contents (get_or s.frames t.place no_frame))) None)) (Err NotInHand)
        go true true = refl
        go true false = refl
        go false b = refl

    pub octets_refused : false ≡ is_held t s.number (spots s.chains) → Err NotInHand ≡ octets_answer t (model s)
    octets_refused e = ap (λ b. cond b (Ok (contents (get_or s.frames t.place no_frame))) (Err NotInHand)) e ∙ octets_held

    module _ (e : true ≡ is_held t s.number (spots s.chains)) where
      pub octets_found : Ok (contents (get_or s.frames t.place no_frame)) ≡ octets_answer t (model s)
      octets_found = ap (λ b. cond b (Ok (contents (get_or s.frames t.place no_frame))) (Err NotInHand)) e ∙ octets_held

      pub place_below : t.place < length s.frames
      place_below = omega (arith, whole.long, held_below s.chains t.place (and_parts (eqb t.store s.number) ((spots s.chains).hand t.place) (sym e)).1)

    held_up : in_hand t (model s) ≡ true → (spots s.chains).hand t.place ≡ true
    held_up i = (and_parts (eqb t.store s.number) ((spots s.chains).hand t.place) (held_in_hand ∙ i)).1

    -- it is spent, if it is in hand
    pub spent : (c : Chains) → spots c ≡ cond (is_held t s.number (spots s.chains)) (pushed 0 t.place (spots s.chains)) (spots s.chains) → turned s c s.frames ≡ spend_after t (model s)
    spent c g = go (in_hand t (model s)) refl
      where
        go : (b : Bool) → in_hand t (model s) ≡ b → turned s c s.frames ≡ cond b (freed t.place (model s)) (model s)
        go true i = let h : spots c ≡ pushed 0 t.place (spots s.chains) = rw (held_in_hand ∙ i) at g in ap (λ (x : Spots). model_of s.number s.links x s.frames) h ∙ end_model s.number s.links (spots s.chains) s.frames s.chains.once (beyond s.chains) t.place
        go false i = let h : spots c ≡ spots s.chains = rw (held_in_hand ∙ i) at g in ap (λ (x : Spots). model_of s.number s.links x s.frames) h

  module _ (l d q : ℕ) (z : Ok q ≡ lane_answer s.links l d) where
    w : There s.links l d q
    w = found s.links l d q z

    pub lane_below : q < 101
    lane_below = omega (arith, w.link, w.direction, w.list, whole.few)

    -- what waits there
    queue_here : queue_in (model s).queues l d ≡ map (queued_at s.frames) ((spots s.chains).lanes q)
    queue_here = queue_at (queue_of (spots s.chains).lanes s.frames) s.links l d w.link w.direction ∙ ap (λ x. map (queued_at s.frames) ((spots s.chains).lanes x)) (sym w.list)

    pub waiting_there : Ok (length ((spots s.chains).lanes q)) ≡ waiting_answer l d (model s)
    waiting_there = sym (on_link_lem s.links l d w.link w.direction (Ok (length (queue_in (model s).queues l d))) ∙ ap (λ (hs : List Queued). Ok (length hs)) queue_here ∙ ap Ok (length-map ((spots s.chains).lanes q) (queued_at s.frames)))

    taken_as_token : take_answer l d (model s) ≡ token_of s.number (map (queued_at s.frames) ((spots s.chains).lanes q))
    taken_as_token = on_link_lem s.links l d w.link w.direction (token_of s.number (queue_in (model s).queues l d)) ∙ ap (token_of s.number) queue_here

    pub taken_none : None ≡ first_of ((spots s.chains).lanes q) → Err NothingWaits ≡ take_answer l d (model s)
    taken_none f = let e = not_some ((spots s.chains).lanes q) f in sym (taken_as_token ∙ rw e)

    pub taken_token : (p : ℕ) → Some p ≡ first_of ((spots s.chains).lanes q) → Ok (record { store = s.number; place = p }) ≡ take_answer l d (model s)
    taken_token p f = let e = is_some ((spots s.chains).lanes q) p f in sym (taken_as_token ∙ rw e)

    -- what passing a frame there answers
    pub passed_answer : (t : InHand) → held_answer t (is_held t s.number (spots s.chains)) ≡ pass_answer t l d (model s)
    passed_answer t = spent_answer t ∙ ap (handed_back t) (sym (on_link_lem s.links l d w.link w.direction (refuses (not (in_hand t (model s))) NotInHand (Ok tt))))

    -- the first of a list, if it has one, comes into the hand
    pub taken : (c : Chains) → spots c ≡ popped q (spots s.chains) → turned s c s.frames ≡ take_after l d (model s)
    taken c g = ap (λ (x : Spots). model_of s.number s.links x s.frames) (g ∙ ap (λ x. popped x old) w.list) ∙ rw (is_link_lem s.links l d w.link w.direction, queue_at (queue_of old.lanes s.frames) s.links l d w.link w.direction) (go (old.lanes (lane l d)) refl)
      where
        old : Spots
        old = spots s.chains

        go : (xs : List ℕ) → old.lanes (lane l d) ≡ xs → model_of s.number s.links (popped_as (lane l d) xs old) s.frames ≡ taken_as l d (map (queued_at s.frames) xs) (model s)
        go [] e = refl
        go (p ∷ rest) e = take_model s.number s.links old s.frames s.chains.once (beyond s.chains) l d w.link w.direction p rest (omega (arith, lane_below, w.list)) e

    -- a frame goes behind all of a list, if it is in hand
    pub passed : (t : InHand) (c : Chains) → spots c ≡ cond (is_held t s.number (spots s.chains)) (pushed q t.place (spots s.chains)) (spots s.chains) → turned s c s.frames ≡ pass_after t l d (model s)
    passed t c g = rw (is_link_lem s.links l d w.link w.direction) (go (in_hand t (model s)) refl)
      where
        go : (b : Bool) → in_hand t (model s) ≡ b → turned s c s.frames ≡ cond b (passed_as l d t.place (hand_in (model s).hands t.place) (model s)) (model s)
        go true i = let h : spots c ≡ pushed q t.place (spots s.chains) = rw (held_in_hand t ∙ i) at g in ap (λ (x : Spots). model_of s.number s.links x s.frames) (h ∙ ap (λ x. pushed x t.place (spots s.chains)) w.list) ∙ pass_model s.number s.links (spots s.chains) s.frames s.chains.once (beyond s.chains) l d w.link w.direction t.place (held_up t i) ∙ ap (λ (o : Option (List ℕ)). passed_as l d t.place o (model s)) (sym (hand_here s.chains s.frames t.place))
        go false i = let h : spots c ≡ spots s.chains = rw (held_in_hand t ∙ i) at g in ap (λ (x : Spots). model_of s.number s.links x s.frames) h

    module _ (o : List ℕ) (good : wrong_length o ≡ false) where
      pub put_lost : (c : Chains) → None ≡ first_of ((spots s.chains).lanes 0) → spots c ≡ popped 0 (spots s.chains) → (p : ℕ) × PutInto l d o (model s) (turned s c s.frames) p
      put_lost c f g =
          let e = not_some ((spots s.chains).lanes 0) f in
          let h : spots c ≡ spots s.chains = rw e at g in
          let v : put_goes l d o (model s) ≡ false = rw (good, is_link_lem s.links l d w.link w.direction, e) in
          (0, record { was_free = λ u. cc; after = rw v (ap (λ (x : Spots). model_of s.number s.links x s.frames) h) })

      pub put_waits : (b c : Chains) (p : ℕ) (fs : List Frame) (v : Frame) → Some p ≡ first_of ((spots s.chains).lanes 0) → spots b ≡ popped 0 (spots s.chains) → spots c ≡ pushed q p (spots b) → fs ≡ set s.frames p v → contents v ≡ o → (p : ℕ) × PutInto l d o (model s) (turned s c fs) p
      put_waits b c p fs v f h g r n =
          let old = spots s.chains in
          let rest = tail_of (old.lanes 0) in
          let e = is_some (old.lanes 0) p f in
          let all : spots c ≡ pushed (lane l d) p (popped_as 0 (p ∷ rest) old) = g ∙ ap (λ (x : Spots). pushed q p x) h ∙ ap (λ x. pushed x p (popped 0 old)) w.list ∙ ap (λ (xs : List ℕ). pushed (lane l d) p (popped_as 0 xs old)) e in
          let lb : lane l d < 101 = omega (arith, lane_below, w.list) in
          let m = put_model s.number s.links old s.frames s.chains.once (beyond s.chains) l d w.link w.direction p rest o v lb e (first_below 0 p f (omega arith)) n in
          let some : 0 < length (old.lanes 0) = omega (arith, ap length e) in
          let goes : put_goes l d o (model s) ≡ true = rw (good, is_link_lem s.links l d w.link w.direction, lt-ltb 0 (length (old.lanes 0)) some) in
          (p, record { was_free = λ u. free_at s.number s.links old s.frames s.chains.once (beyond s.chains) p rest e; after = rw goes (ap (λ (x : Spots). model_of s.number s.links x fs) all ∙ ap (λ (ys : List Frame). model_of s.number s.links (pushed (lane l d) p (popped_as 0 (p ∷ rest) old)) ys) r ∙ m) })

  -- the count of the places in hand
  pub hands_held : in_hands (model s) ≡ holdings (spots s.chains)
  unfolding in_hands holdings
  hands_held = sum_same 128 (λ p. one (option_is_some (hand_in (model s).hands p))) (λ p. one ((spots s.chains).hand p)) (λ p l. ap one (held_some s.chains s.frames p))
