-- What the fields of a store stand for.
use Rattle.std.specs.Prelude.{ℕ, ◌+◌, ◌*◌, Bool, cond, not, ◌&&◌, List, map, length, Some, None, Ok, Option, Result, ◌==◌, slice_index_or}
use Rattle.refusal.specs.declared.Refusal.{Refusal}
use Rattle.refusal.specs.declared.Refusal.TheVariants.{NotInHand}
use Rattle.store.specs.Chains.{Spots}
use Rattle.store.specs.Contents.{contents, no_frame}
use Rattle.store.specs.Maps.{Queued, queued, queues_to, all_hands}
use Rattle.store.specs.Model.{Model, mk_model, refuses, on_link, handed_back}
use Rattle.store.specs.declared.frame.Frame.{Frame}
use Rattle.store.specs.declared.hand.HandedBack.{HandedBack}
use Rattle.store.specs.declared.hand.InHand.{InHand}

-- the list of a direction; list 0 has the free places
abbrev pub lane : ℕ → ℕ → ℕ
lane l d = 1 + 2 * l + d

-- what lane_of answers
abbrev pub lane_answer : ℕ → ℕ → ℕ → Result ℕ Refusal
lane_answer n l d = on_link n l d (Ok (lane l d))

-- a frame in hand is of the store with number k, and its place is in hand there
abbrev pub is_held : InHand → ℕ → Spots → Bool
is_held t k s = t.store == k && s.hand t.place

-- what becomes of one that is to be spent
abbrev pub held_answer : InHand → Bool → Result (Unit {0}) HandedBack
held_answer t b = handed_back t (refuses (not b) NotInHand (Ok tt))

-- the frame at a place
abbrev pub queued_at : List Frame → ℕ → Queued
queued_at fs p = queued p (contents (slice_index_or fs p no_frame))

-- the queue of a link and a direction
abbrev pub queue_of : (ℕ → List ℕ) → List Frame → ℕ → ℕ → List Queued
queue_of lanes fs l d = map (queued_at fs) (lanes (lane l d))

-- the octets of the frame in hand at a place
abbrev pub hand_of : (ℕ → Bool) → List Frame → ℕ → Option (List ℕ)
hand_of hand fs p = cond (hand p) (Some (contents (slice_index_or fs p no_frame))) None

-- the store with number k and n links
abbrev pub model_of : ℕ → ℕ → Spots → List Frame → Model
model_of k n s fs = mk_model k n (length (s.lanes 0)) (queues_to n (queue_of s.lanes fs)) (all_hands (hand_of s.hand fs))
