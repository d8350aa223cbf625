-- Laws over every sequence of calls on a new store.
use Rattle.std.specs.Prelude.{◌≡◌, ℕ, ◌+◌, ◌<◌, ◌≤◌, true, false, cond, ◌&&◌, List, [], ◌∷◌, ◌++◌, map, is_some, Some, None, Ok, Option, ◌==◌, nat_lt}
use Rattle.store.specs.declared.hand.InHand.{InHand}
use Rattle.store.specs.declared.hand.Put.TheVariants.{Waits}
use Rattle.store.specs.Counting.{sum_to, one, count}
use Rattle.store.specs.Maps.{Queued, queue_in, hand_in}
use Rattle.store.specs.Model.{Model, fresh, is_link, wrong_length, put_answer, put_goes, put_after, places, FreeAt, take_after, in_hand, pass_after, spend_after, over_queues, waiting_in}

-- a put with the place that the store chose, a take, a pass, and a frame taken home or dropped
pub data Call : Type 0 where
  puts : ℕ → ℕ → List ℕ → ℕ → Call
  takes : ℕ → ℕ → Call
  passes : InHand → ℕ → ℕ → Call
  spends : InHand → Call

-- what a call leaves
abbrev pub step : Call → Model → Model
step (puts l d o p) m = put_after l d o p m
step (takes l d) m = take_after l d m
step (passes t l d) m = pass_after t l d m
step (spends t) m = spend_after t m

-- what the calls, the newest first, leave of a new store with number k and n links
abbrev pub run : ℕ → ℕ → List Call → Model
run k n [] = fresh k n
run k n (c ∷ h) = step c (run k n h)

-- a put that goes takes a place that is free
abbrev pub Fits : Call → Model → Type 0
Fits (puts l d o p) m = put_goes l d o m ≡ true → FreeAt p m
Fits (takes l d) m = Unit {0}
Fits (passes t l d) m = Unit {0}
Fits (spends t) m = Unit {0}

-- all calls of a sequence do so
abbrev pub Allowed : ℕ → ℕ → List Call → Type 0
Allowed k n [] = Unit {0}
Allowed k n (c ∷ h) = Fits c (run k n h) × Allowed k n h

-- some sequence of calls on a new store leads to m
abbrev pub Reached : ℕ → ℕ → Model → Type 0
Reached k n m = ∥ ((h : List Call) × (Allowed k n h × (run k n h ≡ m))) ∥₁

-- how many of the first n places are in hand
abbrev pub hands_to : ℕ → Model → ℕ
hands_to n m = sum_to n (λ p. one (is_some (hand_in m.hands p)))

-- how many places are in hand
unfoldable pub in_hands : Model → ℕ
in_hands m = hands_to 128 m

-- how often the place p stands, waiting or in hand
abbrev pub stands_in : Model → ℕ → ℕ
stands_in m p = over_queues m.links (λ hs. count p (places hs)) (queue_in m.queues) + one (is_some (hand_in m.hands p))

-- waiting, in hand and free are 128
abbrev pub AllPlaces : Type 0
AllPlaces = (k n : ℕ) (h : List Call) → Allowed k n h → waiting_in (run k n h) + in_hands (run k n h) + (run k n h).free ≡ 128

-- no place stands twice, and none from 128 on
abbrev pub NoneTwice : Type 0
NoneTwice = (k n : ℕ) (h : List Call) → Allowed k n h → (p : ℕ) → stands_in (run k n h) p ≤ one (nat_lt p 128)

-- a put finds room whenever fewer than 128 wait or are in hand
abbrev pub FindsRoom : Type 0
FindsRoom = (k n : ℕ) (h : List Call) → Allowed k n h → (l d : ℕ) (o : List ℕ) → wrong_length o ≡ false → is_link l d (run k n h) ≡ true → waiting_in (run k n h) + in_hands (run k n h) < 128 → put_answer l d o (run k n h) ≡ Ok Waits

-- the octets of the frames of a queue
abbrev pub contents_of : List Queued → List (List ℕ)
contents_of hs = map (λ h. h.octets) hs

-- what is there, as a list
abbrev pub listed : Option (List ℕ) → List (List ℕ)
listed None = []
listed (Some o) = o ∷ []

-- the octets of the first frame, as a list
abbrev pub first_in : List Queued → List (List ℕ)
first_in [] = []
first_in (h ∷ hs) = h.octets ∷ []

-- what a call brings to the queue of link l and direction d
abbrev pub brings : ℕ → ℕ → Call → Model → List (List ℕ)
brings l d (puts i j o p) m = cond (put_goes i j o m) (cond (i == l && j == d) (o ∷ []) []) []
brings l d (takes i j) m = []
brings l d (passes t i j) m = cond (is_link i j m && in_hand t m) (cond (i == l && j == d) (listed (hand_in m.hands t.place)) []) []
brings l d (spends t) m = []

-- and what it takes from it
abbrev pub draws : ℕ → ℕ → Call → Model → List (List ℕ)
draws l d (puts i j o p) m = []
draws l d (takes i j) m = cond (is_link i j m) (cond (i == l && j == d) (first_in (queue_in m.queues l d)) []) []
draws l d (passes t i j) m = []
draws l d (spends t) m = []

-- all that the calls brought to it, oldest first
abbrev pub all_brought : ℕ → ℕ → ℕ → ℕ → List Call → List (List ℕ)
all_brought k n l d [] = []
all_brought k n l d (c ∷ h) = all_brought k n l d h ++ brings l d c (run k n h)

-- all that they took from it, oldest first
abbrev pub all_drawn : ℕ → ℕ → ℕ → ℕ → List Call → List (List ℕ)
all_drawn k n l d [] = []
all_drawn k n l d (c ∷ h) = all_drawn k n l d h ++ draws l d c (run k n h)

-- first in, first out: what was put into a queue or passed to it is what was taken from it and then what waits
abbrev pub FirstOut : Type 0
FirstOut = (k n : ℕ) (h : List Call) (l d : ℕ) → all_brought k n l d h ≡ all_drawn k n l d h ++ contents_of (queue_in (run k n h).queues l d)

-- all of them
pub record Laws : Type 0 where
  pub all_places : AllPlaces
  pub none_twice : NoneTwice
  pub finds_room : FindsRoom
  pub first_out : FirstOut
