-- What the arrays stand for after a move.
use Rattle.std.proofs.Common.{◌≡◌, ℕ, zero, suc, ◌+◌, ◌-◌, ◌%◌, ◌<◌, ◌≤◌, Bool, true, false, ltb, ◌≢◌, ◌⊎◌, List, [], ◌∷◌, ◌++◌, length, set, Some, sym, refl, ap, ◌∙◌, subst, inl, inr, arith, length-set, get_or-set_other, get_or-set_same}
use mathlib.Core.Path.{fun_ext}
use Rattle.std.proofs.lemmas.Bool.Decides.{nat_tests}
use Rattle.std.proofs.lemmas.Bool.{cases_eq, cases_lt}
use Rattle.std.proofs.lemmas.List.{get_or_past}
use Rattle.std.proofs.lemmas.List.Sums.{sum_by-set}
use Rattle.store.specs.declared.chains.Chains.{Chains}
use Rattle.store.specs.declared.chains.Lane.{Lane}
use Rattle.store.specs.declared.chains.Spot.{Spot}
use Rattle.store.specs.Chains.{no_lane, no_spot, lane_at, spot_at, chain, list_of, last_or, Spots, spots_of, EndAt, held_in, total, first_of, popped, pushed}
use Rattle.store.specs.Counting.{change, count, one}
use Rattle.store.specs.Spots.{spots}
use Rattle.store.proofs.Links.{chain_same, chain_away, chain_push, count_last}
use Rattle.store.proofs.Standing.{one_few, change_here, change_there, within, apart, pop_ends, push_ends}

abbrev mk : (ℕ → List ℕ) → (ℕ → Bool) → Spots
mk l h = record { lanes = l; hand = h }

pub spots_same : (l m : ℕ → List ℕ) (h g : ℕ → Bool) → ((j : ℕ) → l j ≡ m j) → ((j : ℕ) → h j ≡ g j) → mk l h ≡ mk m g
spots_same l m h g e f = ap (λ (x : ℕ → List ℕ). mk x h) (fun_ext e) ∙ ap (λ (y : ℕ → Bool). mk m y) (fun_ext f)

chain_cons : (ps : List Spot) (h k : ℕ) → k ≢ 0 → chain ps h k ≡ h ∷ chain ps (spot_at ps h).next (k - 1)
chain_cons ps h zero ne = absurd (ne refl)
chain_cons ps h (suc k) ne = let e : suc k - 1 ≡ k = omega arith in rw e

chain_more : (ps : List Spot) (t : ℕ) (v : Spot) (h k : ℕ) → k ≢ 0 → t < length ps → last_or t (chain ps h k) ≡ t → count t (chain ps h k) ≤ 1 → chain (set ps t v) h (k + 1) ≡ chain ps h k ++ v.next ∷ []
chain_more ps t v h zero ne l e c = absurd (ne refl)
chain_more ps t v h (suc k) ne l e c =
    let s : suc k + 1 ≡ suc (suc k) = omega arith in
    rw s (chain_push ps t v h k l e (omega (arith, count_last t h (chain ps (spot_at ps h).next k) e)))

-- one list written anew
list_set : (ls : List Lane) (ps : List Spot) (q : ℕ) (v : Lane) → q < length ls → (j : ℕ) → list_of (set ls q v) ps j ≡ change q (chain ps v.head v.len) (list_of ls ps) j
list_set ls ps q v l j = elim (cases_eq j q) [ inl e ↦ rw (e, get_or-set_same ls q v no_lane l, change_here q (chain ps v.head v.len) (list_of ls ps)) | inr ne ↦ rw (get_or-set_other ls q j v no_lane ne, change_there q j (chain ps v.head v.len) (list_of ls ps) ne) ]

tail_set : (ls : List Lane) (q : ℕ) (v : Lane) → q < length ls → (j : ℕ) → (lane_at (set ls q v) j).tail ≡ change q v.tail (λ i. (lane_at ls i).tail) j
tail_set ls q v l j = elim (cases_eq j q) [ inl e ↦ rw (e, get_or-set_same ls q v no_lane l, change_here q v.tail (λ i. (lane_at ls i).tail)) | inr ne ↦ rw (get_or-set_other ls q j v no_lane ne, change_there q j v.tail (λ i. (lane_at ls i).tail) ne) ]

change_same : (q : ℕ) (f : ℕ → ℕ) (j : ℕ) → change q (f q) f j ≡ f j
change_same q f j = elim (cases_eq j q) [ inl e ↦ rw (e, change_here q (f q) f) | inr ne ↦ change_there q j (f q) f ne ]

-- the place p, in hand or not, leading where it led
abbrev pub turned_to : List Spot → ℕ → Bool → Spot
turned_to ps p b = record { next = (spot_at ps p).next; held = b }

-- the place t, leading to p
abbrev pub leading : List Spot → ℕ → ℕ → Spot
leading ps t p = record { next = p; held = (spot_at ps t).held }

-- list q without its first place, and with p as its last
abbrev pub without_first : Chains → ℕ → Lane
without_first s q = record { head = (spot_at s.places (lane_at s.lanes q).head).next; tail = (lane_at s.lanes q).tail; len = (lane_at s.lanes q).len - 1 }

abbrev pub with_last : Chains → ℕ → ℕ → ℕ → Lane
with_last s q h p = record { head = h; tail = p; len = (lane_at s.lanes q).len + 1 }

-- the two ways of a push: where its places lead, and the first of the list
abbrev pub Way : Chains → ℕ → ℕ → List Spot → ℕ → Type 0
Way s q p ps h = (((lane_at s.lanes q).len ≡ 0) × (ps ≡ s.places) × (h ≡ p)) ⊎ (((lane_at s.lanes q).len ≢ 0) × (ps ≡ set s.places (lane_at s.lanes q).tail (leading s.places (lane_at s.lanes q).tail p)) × (h ≡ (lane_at s.lanes q).head))

-- places that are in hand as before
record Kept (s : Chains) (ps : List Spot) : Type 0 where
  long : length ps ≡ 128
  hand : (i : ℕ) → (spot_at ps i).held ≡ (spot_at s.places i).held
  many : held_in ps ≡ held_in s.places

module _ (s : Chains) where
  as_is : Kept s s.places
  as_is = record { long = s.sites; hand = λ i. refl; many = refl }

  -- a place in hand is one of the 128
  pub held_below : (p : ℕ) → (spots s).hand p ≡ true → p < 128
  held_below p h = elim (cases_lt p 128) [ inl l ↦ l | inr g ↦ (let b : length s.places ≤ p = omega (arith, s.sites) in let z : one (spot_at s.places p).held ≡ 0 = ap (λ (x : Spot). one x.held) (get_or_past s.places p no_spot b) in let y : one (spot_at s.places p).held ≡ 1 = ap one h in absurd (omega arith)) ]

  -- one place comes into the hand or leaves it
  module _ (ps : List Spot) (k : Kept s ps) (p : ℕ) (b : Bool) (m : p < 128) where
    j : p < length ps
    j = omega (arith, k.long)

    held_moved : held_in (set ps p (turned_to ps p b)) + one (spot_at s.places p).held ≡ held_in s.places + one b
    held_moved = omega (arith, sum_by-set (λ (x : Spot). one x.held) ps p (turned_to ps p b) no_spot j, ap one (k.hand p), k.many)

    total_moved : (q : ℕ) (v : Lane) → q < 101 → v.len + one b ≡ (lane_at s.lanes q).len + one (spot_at s.places p).held → total (set s.lanes q v) (set ps p (turned_to ps p b)) ≡ 128
    total_moved q v l e =
        let i : q < length s.lanes = omega (arith, s.lists) in
        omega (arith, s.all, sum_by-set (λ (x : Lane). x.len) s.lanes q v no_lane i, held_moved)

    hand_moved : (i : ℕ) → (spot_at (set ps p (turned_to ps p b)) i).held ≡ change p b (spots s).hand i
    hand_moved i = elim (cases_eq i p) [ inl e ↦ rw (e, get_or-set_same ps p (turned_to ps p b) no_spot j, change_here p b (spots s).hand) | inr ne ↦ rw (get_or-set_other ps p i (turned_to ps p b) no_spot ne, change_there p i b (spots s).hand ne) (k.hand i) ]

    next_kept : (i : ℕ) → (spot_at (set ps p (turned_to ps p b)) i).next ≡ (spot_at ps i).next
    next_kept i = elim (cases_eq i p) [ inl e ↦ rw (e, get_or-set_same ps p (turned_to ps p b) no_spot j) | inr ne ↦ rw (get_or-set_other ps p i (turned_to ps p b) no_spot ne) ]

    -- what the arrays stand for then, if the lists are as f says
    spots_moved : (ls : List Lane) (f : ℕ → List ℕ) → ((i : ℕ) → list_of ls ps i ≡ f i) → spots_of ls (set ps p (turned_to ps p b)) ≡ mk f (change p b (spots s).hand)
    spots_moved ls f e = spots_same _ _ _ _ (λ i. chain_same (set ps p (turned_to ps p b)) ps (lane_at ls i).head (lane_at ls i).len next_kept ∙ e i) hand_moved

  module _ (q : ℕ) (l : q < 101) where
    i : q < length s.lanes
    i = omega (arith, s.lists)

    pub len_few : (lane_at s.lanes q).len ≤ 128
    len_few = omega (arith, s.all, sum_by-set (λ (x : Lane). x.len) s.lanes q no_lane no_lane i)

    -- the first of a list that is not empty
    module _ (ne : (lane_at s.lanes q).len ≢ 0) where
      pub pop_first : Some (lane_at s.lanes q).head ≡ first_of ((spots s).lanes q)
      pop_first = ap first_of (sym (chain_cons s.places (lane_at s.lanes q).head (lane_at s.lanes q).len ne))

      head_in : 1 ≤ count (lane_at s.lanes q).head ((spots s).lanes q)
      head_in = let c = ap (count (lane_at s.lanes q).head) (chain_cons s.places (lane_at s.lanes q).head (lane_at s.lanes q).len ne) in grind (arith, nat_tests)

      pub head_below : (lane_at s.lanes q).head < 128
      head_below = let w = within (spots s) s.once q (lane_at s.lanes q).head l in let g = head_in in grind (arith, nat_tests)

      head_free : one (spot_at s.places (lane_at s.lanes q).head).held ≡ 0
      head_free = omega (arith, head_in, within (spots s) s.once q (lane_at s.lanes q).head l, one_few (ltb (lane_at s.lanes q).head 128))

      pub pop_after : spots_of (set s.lanes q (without_first s q)) (set s.places (lane_at s.lanes q).head (turned_to s.places (lane_at s.lanes q).head true)) ≡ popped q (spots s)
      pop_after = rw (chain_cons s.places (lane_at s.lanes q).head (lane_at s.lanes q).len ne) (spots_moved s.places as_is (lane_at s.lanes q).head true head_below (set s.lanes q (without_first s q)) _ (list_set s.lanes s.places q (without_first s q) i))

      pub pop_total : total (set s.lanes q (without_first s q)) (set s.places (lane_at s.lanes q).head (turned_to s.places (lane_at s.lanes q).head true)) ≡ 128
      pop_total = total_moved s.places as_is (lane_at s.lanes q).head true head_below q (without_first s q) l (omega (arith, head_free, ne))

      pub pop_counted : (s.taken + 1) % 256 ≡ (s.given + held_in (set s.places (lane_at s.lanes q).head (turned_to s.places (lane_at s.lanes q).head true))) % 256
      pop_counted = omega (arith, s.counted, head_free, held_moved s.places as_is (lane_at s.lanes q).head true head_below)

      pub pop_ends_at : EndAt (popped q (spots s)) (λ j. (lane_at (set s.lanes q (without_first s q)) j).tail)
      pop_ends_at = subst (λ (f : ℕ → ℕ). EndAt (popped q (spots s)) f) (sym (fun_ext (λ j. tail_set s.lanes q (without_first s q) i j ∙ change_same q (λ k. (lane_at s.lanes k).tail) j))) (pop_ends (spots s) (λ j. (lane_at s.lanes j).tail) s.ends q)

    -- the last of a list that is not empty
    module _ (ne : (lane_at s.lanes q).len ≢ 0) where
      tail_in : 1 ≤ count (lane_at s.lanes q).tail ((spots s).lanes q)
      tail_in =
          let e = chain_cons s.places (lane_at s.lanes q).head (lane_at s.lanes q).len ne in
          rw e (count_last (lane_at s.lanes q).tail (lane_at s.lanes q).head (chain s.places (spot_at s.places (lane_at s.lanes q).head).next ((lane_at s.lanes q).len - 1)) (rw e at (s.ends q)))

      pub tail_below : (lane_at s.lanes q).tail < 128
      tail_below = let a = tail_in in let b = within (spots s) s.once q (lane_at s.lanes q).tail l in grind (arith, nat_tests)

      tail_once : count (lane_at s.lanes q).tail ((spots s).lanes q) ≤ 1
      tail_once = omega (arith, within (spots s) s.once q (lane_at s.lanes q).tail l, one_few (ltb (lane_at s.lanes q).tail 128))

      away : (j : ℕ) → j ≢ q → count (lane_at s.lanes q).tail ((spots s).lanes j) ≡ 0
      away j d = elim (cases_lt j 101) [ inl m ↦ omega (arith, tail_in, apart (spots s) s.once q j (lane_at s.lanes q).tail d l m, one_few (ltb (lane_at s.lanes q).tail 128)) | inr m ↦ (let p : length s.lanes ≤ j = omega (arith, s.lists) in rw (get_or_past s.lanes j no_lane p)) ]

      behind : (p j : ℕ) → (j ≡ q) ⊎ (j ≢ q) → list_of (set s.lanes q (with_last s q (lane_at s.lanes q).head p)) (set s.places (lane_at s.lanes q).tail (leading s.places (lane_at s.lanes q).tail p)) j ≡ change q ((spots s).lanes q ++ p ∷ []) (spots s).lanes j
      behind p j (inl e) =
          let b : (lane_at s.lanes q).tail < length s.places = omega (arith, tail_below, s.sites) in
          rw (e, get_or-set_same s.lanes q (with_last s q (lane_at s.lanes q).head p) no_lane i, change_here q ((spots s).lanes q ++ p ∷ []) (spots s).lanes) (chain_more s.places (lane_at s.lanes q).tail (leading s.places (lane_at s.lanes q).tail p) (lane_at s.lanes q).head (lane_at s.lanes q).len ne b (s.ends q) tail_once)
      behind p j (inr d) = rw (get_or-set_other s.lanes q j (with_last s q (lane_at s.lanes q).head p) no_lane d, change_there q j ((spots s).lanes q ++ p ∷ []) (spots s).lanes d) (chain_away s.places (lane_at s.lanes q).tail (leading s.places (lane_at s.lanes q).tail p) (lane_at s.lanes j).head (lane_at s.lanes j).len (away j d))

      relinked : (p : ℕ) → Kept s (set s.places (lane_at s.lanes q).tail (leading s.places (lane_at s.lanes q).tail p))
      relinked p = record {
        long = length-set s.places (lane_at s.lanes q).tail (leading s.places (lane_at s.lanes q).tail p) ∙ s.sites;
        hand = λ k. elim (cases_eq k (lane_at s.lanes q).tail) [ inl e ↦ rw (e, get_or-set_same s.places (lane_at s.lanes q).tail (leading s.places (lane_at s.lanes q).tail p) no_spot b) | inr d ↦ rw (get_or-set_other s.places (lane_at s.lanes q).tail k (leading s.places (lane_at s.lanes q).tail p) no_spot d) ];
        many = omega (arith, sum_by-set (λ (x : Spot). one x.held) s.places (lane_at s.lanes q).tail (leading s.places (lane_at s.lanes q).tail p) no_spot b);
      }
        where
          b : (lane_at s.lanes q).tail < length s.places
          b = omega (arith, tail_below, s.sites)

  module _ (q p : ℕ) (l : q < 101) (up : (spots s).hand p ≡ true) (ps : List Spot) (h : ℕ) where
    way_kept : Way s q p ps h → Kept s ps
    way_kept (inl w) = subst (λ (x : List Spot). Kept s x) (sym w.1) as_is
    way_kept (inr w) = subst (λ (x : List Spot). Kept s x) (sym w.1) (relinked q l w.0 p)

    leads : Way s q p ps h → (j : ℕ) → list_of (set s.lanes q (with_last s q h p)) ps j ≡ change q ((spots s).lanes q ++ p ∷ []) (spots s).lanes j
    leads (inl w) j = rw (w.1, w.2) (list_set s.lanes s.places q (with_last s q p p) (omega (arith, s.lists)) j ∙ rw w.0)
    leads (inr w) j = rw (w.1, w.2) (behind q l w.0 p j (cases_eq j q))

    held_one : one (spot_at s.places p).held ≡ 1
    held_one = ap one up

    module _ (w : Way s q p ps h) where
      pub push_long : length (set ps p (turned_to ps p false)) ≡ 128
      push_long = length-set ps p (turned_to ps p false) ∙ (way_kept w).long

      pub push_after : spots_of (set s.lanes q (with_last s q h p)) (set ps p (turned_to ps p false)) ≡ pushed q p (spots s)
      push_after = spots_moved ps (way_kept w) p false (held_below p up) (set s.lanes q (with_last s q h p)) _ (leads w)

      pub push_total : total (set s.lanes q (with_last s q h p)) (set ps p (turned_to ps p false)) ≡ 128
      push_total = total_moved ps (way_kept w) p false (held_below p up) q (with_last s q h p) l (omega (arith, held_one))

      pub push_counted : s.taken ≡ ((s.given + 1) % 256 + held_in (set ps p (turned_to ps p false))) % 256
      push_counted = omega (arith, s.counted, held_one, held_moved ps (way_kept w) p false (held_below p up))

      pub push_ends_at : EndAt (pushed q p (spots s)) (λ j. (lane_at (set s.lanes q (with_last s q h p)) j).tail)
      push_ends_at =
          let i : q < length s.lanes = omega (arith, s.lists) in
          subst (λ (f : ℕ → ℕ). EndAt (pushed q p (spots s)) f) (sym (fun_ext (tail_set s.lanes q (with_last s q h p) i))) (push_ends (spots s) (λ j. (lane_at s.lanes j).tail) s.ends q p)
