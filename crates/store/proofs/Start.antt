-- A new store: every place stands in the free list.
use Rattle.std.proofs.Common.{◌≡◌, ℕ, zero, suc, ◌+◌, ◌<◌, ◌≤◌, false, cond, ltb, ◌≢◌, List, [], ◌∷◌, length, get_or, set, replicate, refl, ap, inl, inr, arith}
use Rattle.std.proofs.lemmas.Bool.Decides.{nat_tests}
use Rattle.std.proofs.lemmas.Bool.{cases_lt}
use Rattle.std.proofs.lemmas.List.{get_or_past}
use Rattle.std.proofs.lemmas.List.Sums.{sum_by-cons}
use Rattle.store.specs.declared.chains.Lane.{Lane}
use Rattle.store.specs.declared.chains.Spot.{Spot}
use Rattle.store.specs.Chains.{no_lane, no_spot, lane_at, spot_at, chain, list_of, last_or, standing, standing_in, OnceEach, EndAt, spots_of, held_in, up_from, every_place, all_free}
use Rattle.store.specs.Counting.{change, count, one}
use Rattle.store.proofs.Standing.{sum_none, sum_change, change_there}
use Rattle.store.proofs.Moves.{spots_same}

count_up : (p h k : ℕ) → count p (up_from h k) ≡ cond (ltb p h) 0 (one (ltb p (h + k)))
count_up p h zero = grind (arith, nat_tests)
count_up p h (suc k) = grind (arith, nat_tests, count_up p (h + 1) k)

last_up : (t h k : ℕ) → last_or t (up_from h (suc k)) ≡ h + k
last_up t h zero = omega arith
last_up t h (suc k) = omega (arith, last_up h (h + 1) k)

-- each place leads to the one after it
abbrev pub Up : List Spot → Type 0
Up ps = (i : ℕ) → i < 128 → ((spot_at ps i).next ≡ i + 1) × ((spot_at ps i).held ≡ false)

chain_up : (ps : List Spot) (h k : ℕ) → Up ps → h + k ≤ 127 → chain ps h (suc k) ≡ up_from h (suc k)
chain_up ps h zero e l = refl
chain_up ps h (suc k) e l = ap (λ (xs : List ℕ). h ∷ xs) (rw (e h (omega arith)).0 (chain_up ps (h + 1) k e (omega arith)))

start_in : (n p k : ℕ) (xs : List ℕ) → 0 < n → count p xs ≡ k → standing_in n (record { lanes = change 0 xs (λ _. []); hand = λ _. false }) p ≡ k
start_in n p k xs l e = omega (arith, sum_change n 0 (λ q. count p (change 0 xs (λ _. []) q)) (λ _. 0) (λ j ne. go j ne) l, sum_none n)
  where
    go : (j : ℕ) → j ≢ 0 → count p (change 0 xs (λ _. []) j) ≡ 0
    go j ne = ap (count p) (change_there 0 j xs (λ _. []) ne)

pub start_once : OnceEach all_free
unfolding standing every_place
start_once p = start_in 101 p (one (ltb p 128)) (up_from 0 128) (omega arith) (at p 128)
  where
    at : (p k : ℕ) → count p (up_from 0 k) ≡ one (ltb p k)
    at p k = grind (arith, nat_tests, count_up p 0 k)

get_or-same : {A : Type 0} (n j : ℕ) (a : A) → get_or (replicate n a) j a ≡ a
get_or-same zero j a = refl
get_or-same (suc n) zero a = refl
get_or-same (suc n) (suc j) a = get_or-same n j a

-- the list of the free places, and all lists
abbrev pub first_lane : Lane
first_lane = record { head = 0; tail = 127; len = 128 }

abbrev pub first_lanes : List Lane
first_lanes = set (replicate 101 no_lane) 0 first_lane

module _ (ps : List Spot) (long : length ps ≡ 128) (up : Up ps) where
  pub start_list : (j : ℕ) → list_of first_lanes ps j ≡ change 0 every_place (λ _. []) j
  unfolding every_place
  start_list zero = chain_up ps 0 127 up (omega arith)
  start_list (suc j) = rw (get_or-same {A = Lane} 100 j no_lane, change_there 0 (suc j) (up_from 0 128) (λ _. []) (λ d. absurd (omega arith)))

  start_hand : (j : ℕ) → (spot_at ps j).held ≡ false
  start_hand j = elim (cases_lt j 128) [ inl l ↦ (up j l).1 | inr g ↦ ap (λ (x : Spot). x.held) (get_or_past ps j no_spot (omega (arith, long))) ]

  pub start_after : spots_of first_lanes ps ≡ all_free
  start_after = spots_same _ _ _ _ start_list start_hand

  pub start_ends : EndAt all_free (λ q. (lane_at first_lanes q).tail)
  unfolding every_place
  start_ends zero = last_up 0 0 127
  start_ends (suc j) = rw (get_or-same {A = Lane} 100 j no_lane, change_there 0 (suc j) (up_from 0 128) (λ _. []) (λ d. absurd (omega arith)))

  -- nothing is in hand
  pub start_held : held_in ps ≡ 0
  start_held = none ps start_hand
    where
      none : (xs : List Spot) → ((j : ℕ) → (spot_at xs j).held ≡ false) → held_in xs ≡ 0
      none [] e = refl
      none (x ∷ xs) e = omega (arith, sum_by-cons (λ (y : Spot). one y.held) x xs, ap one (e 0), none xs (λ j. e (suc j)))
