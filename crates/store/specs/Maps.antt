-- The queues of a store and the frames in hand there, as finite maps.
use Rattle.std.specs.Prelude.{ℕ, zero, suc, List, [], Some, None, Option, refl}
use Rattle.std.specs.Coded.{Coded, code_by, coded×, coded_ℕ, coded_list}
use Rattle.std.specs.FinMap as map
use Rattle.std.specs.Ordering.{nat_cmp, ordering_then}
use Rattle.std.specs.declared.cmp.Ordering.{Ordering}

-- a frame that waits, and its place
pub record Queued : Type 0 where
  pub place : ℕ
  pub octets : List ℕ

-- the frame o at the place p
abbrev pub queued : ℕ → List ℕ → Queued
queued p o = record { place = p; octets = o }

-- links in order, and of one link its directions
abbrev pub way_cmp : ℕ × ℕ → ℕ × ℕ → Ordering
way_cmp x y = ordering_then (nat_cmp x.0 y.0) (nat_cmp x.1 y.1)

-- a queue for each link and direction, first in front
abbrev pub Queues : Type 0
Queues = map.FinMap way_cmp (List Queued)

-- the octets of the frame in hand, for each place that is in hand
abbrev pub Hands : Type 0
Hands = map.FinMap nat_cmp (List ℕ)

-- what waits, if there is such a queue
abbrev pub waiting_or_none : Option (List Queued) → List Queued
waiting_or_none None = []
waiting_or_none (Some hs) = hs

-- the queue of link l and direction d
abbrev pub queue_in : Queues → ℕ → ℕ → List Queued
queue_in q l d = waiting_or_none (map.get q (l, d))

-- the octets of the frame in hand at the place p
abbrev pub hand_in : Hands → ℕ → Option (List ℕ)
hand_in h p = map.get h p

-- a queue for each direction of the first n links
abbrev pub queues_to : ℕ → (ℕ → ℕ → List Queued) → Queues
queues_to zero q = map.empty
queues_to (suc l) q = map.insert (map.insert (queues_to l q) (l, 0) (q l 0)) (l, 1) (q l 1)

-- a frame in hand at the place p, if there is one
abbrev pub with_hand : ℕ → Option (List ℕ) → Hands → Hands
with_hand p None h = h
with_hand p (Some o) h = map.insert h p o

-- the frames in hand at the first n places
abbrev pub hands_below : ℕ → (ℕ → Option (List ℕ)) → Hands
hands_below zero f = map.empty
hands_below (suc p) f = with_hand p (f p) (hands_below p f)

-- and at all 128
unfoldable pub all_hands : (ℕ → Option (List ℕ)) → Hands
all_hands f = hands_below 128 f

-- how their values are told apart
abbrev pub queued_code : Coded Queued
queued_code = code_by (ℕ × List ℕ) (coded× coded_ℕ (coded_list coded_ℕ)) (λ h. (h.place, h.octets)) (λ p. record { place = p.0; octets = p.1 }) (λ _. refl)

abbrev pub queues_code : Coded Queues
queues_code = map.code (coded× coded_ℕ coded_ℕ) (coded_list queued_code)

abbrev pub hands_code : Coded Hands
hands_code = map.code coded_ℕ (coded_list coded_ℕ)
