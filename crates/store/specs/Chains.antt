-- The lists of places, led through one array of next places.
use Rattle.std.specs.Prelude.{◌≡◌, ℕ, zero, suc, ◌+◌, Bool, true, false, List, [], ◌∷◌, ◌++◌, Some, None, sum_by, Option, nat_lt, slice_index_or}
use Rattle.store.specs.declared.chains.Lane.{Lane}
use Rattle.store.specs.declared.chains.Spot.{Spot}
use Rattle.store.specs.Counting.{change, sum_to, one, count}

-- a list with nothing in it, and a place that is not in hand
abbrev pub no_lane : Lane
no_lane = record { head = 0; tail = 0; len = 0 }

abbrev pub no_spot : Spot
no_spot = record { next = 0; held = false }

-- list q, and the place p
abbrev pub lane_at : List Lane → ℕ → Lane
lane_at ls q = slice_index_or ls q no_lane

abbrev pub spot_at : List Spot → ℕ → Spot
spot_at ps p = slice_index_or ps p no_spot

-- the k places met from h on
abbrev pub chain : List Spot → ℕ → ℕ → List ℕ
chain ps h zero = []
chain ps h (suc k) = h ∷ chain ps (spot_at ps h).next k

-- the places in list q
abbrev pub list_of : List Lane → List Spot → ℕ → List ℕ
list_of ls ps q = chain ps (lane_at ls q).head (lane_at ls q).len

-- the places in each list, and which are in hand
pub record Spots : Type 0 where
  pub lanes : ℕ → List ℕ
  pub hand : ℕ → Bool

-- as the arrays have them
abbrev pub spots_of : List Lane → List Spot → Spots
spots_of ls ps = record { lanes = list_of ls ps; hand = λ p. (spot_at ps p).held }

-- how often p stands in the first n lists and in hand
abbrev pub standing_in : ℕ → Spots → ℕ → ℕ
standing_in n s p = sum_to n (λ q. count p (s.lanes q)) + one (s.hand p)

-- in all lists and in hand
unfoldable pub standing : Spots → ℕ → ℕ
standing s p = standing_in 101 s p

-- each of the 128 places stands once, and no other
abbrev pub OnceEach : Spots → Type 0
OnceEach s = (p : ℕ) → standing s p ≡ one (nat_lt p 128)

-- so it is with the arrays
abbrev pub Once : List Lane → List Spot → Type 0
Once ls ps = OnceEach (spots_of ls ps)

-- the last of a list, and t for the empty one
abbrev pub last_or : ℕ → List ℕ → ℕ
last_or t [] = t
last_or t (x ∷ xs) = last_or x xs

-- ts leads to the last of each list
abbrev pub EndAt : Spots → (ℕ → ℕ) → Type 0
EndAt s ts = (q : ℕ) → last_or (ts q) (s.lanes q) ≡ ts q

-- so it is with the last places that the lists name
abbrev pub Ends : List Lane → List Spot → Type 0
Ends ls ps = EndAt (spots_of ls ps) (λ q. (lane_at ls q).tail)

-- how many of the places are in hand
abbrev pub held_in : List Spot → ℕ
held_in ps = sum_by (λ p. one p.held) ps

-- the lengths of all lists, and those in hand
abbrev pub total : List Lane → List Spot → ℕ
total ls ps = sum_by (λ l. l.len) ls + held_in ps

-- how many places are in hand
unfoldable pub holdings : Spots → ℕ
holdings s = sum_to 128 (λ p. one (s.hand p))

-- the first of a list
abbrev pub first_of : List ℕ → Option ℕ
first_of [] = None
first_of (x ∷ xs) = Some x

-- x comes into the hand, where list q is x and then xs
abbrev pub popped_as : ℕ → List ℕ → Spots → Spots
popped_as q [] s = s
popped_as q (x ∷ xs) s = record { lanes = change q xs s.lanes; hand = change x true s.hand }

-- the first of list q comes into the hand
abbrev pub popped : ℕ → Spots → Spots
popped q s = popped_as q (s.lanes q) s

-- from the hand to the end of a list
abbrev pub pushed : ℕ → ℕ → Spots → Spots
pushed q p s = record { lanes = change q (s.lanes q ++ p ∷ []) s.lanes; hand = change p false s.hand }

-- k places from h on
abbrev pub up_from : ℕ → ℕ → List ℕ
up_from h zero = []
up_from h (suc k) = h ∷ up_from (h + 1) k

-- all 128 places
unfoldable pub every_place : List ℕ
every_place = up_from 0 128

-- all places are in list 0
abbrev pub all_free : Spots
all_free = record { lanes = change 0 every_place (λ _. []); hand = λ _. false }
