-- A frame just taken is in hand, and no call refuses it as not in hand.
use Rattle.std.proofs.Common.{◌≡◌, ℕ, ◌<◌, Bool, true, false, cond, not, List, [], ◌∷◌, Some, Ok, Err, Result, refl, ap, ◌∙◌}
use Rattle.refusal.specs.declared.Refusal.{Refusal}
use Rattle.refusal.specs.declared.Refusal.TheVariants.{NothingWaits, NotInHand}
use Rattle.std.proofs.lemmas.Bool.{eq-eqb}
use Rattle.store.specs.declared.hand.InHand.{InHand}
use Rattle.store.specs.Laws.{listed, first_in}
use Rattle.store.specs.Maps.{Queued, queue_in, hand_in}
use Rattle.store.specs.Model.{Model, is_link, refuses, handed_back, token_of, take_answer, take_after, taken_as, in_hand, pass_answer, spend_answer, put_goes, put_in, put_after}
use Rattle.store.proofs.Maps.{hand_insert}
use Rattle.store.proofs.Lanes.{ok_err, there, on_link_lem, is_link_lem}
use Rattle.store.proofs.Standing.{change_here}

abbrev store_of : Result InHand Refusal → ℕ
store_of (Ok x) = x.store
store_of (Err r) = 0

abbrev place_of : Result InHand Refusal → ℕ
place_of (Ok x) = x.place
place_of (Err r) = 0

module _ (l d : ℕ) (m : Model) (t : InHand) (e : Ok t ≡ take_answer l d m) where
  -- the link and the direction from which it was taken are there
  pub taken_there : (l < m.links) × (d < 2) × (Ok t ≡ token_of m.number (queue_in m.queues l d))
  taken_there = there m.links l d t (token_of m.number (queue_in m.queues l d)) e

  pub taken_held : in_hand t (take_after l d m) ≡ true
  taken_held = rw (is_link_lem m.links l d taken_there.0 taken_there.1) (go (queue_in m.queues l d) taken_there.2)
    where
      go : (hs : List Queued) → Ok t ≡ token_of m.number hs → in_hand t (taken_as l d hs m) ≡ true
      go [] f = absurd (ok_err t NothingWaits f)
      go (h ∷ hs) f =
          let k : t.store ≡ m.number = ap store_of f in
          let p : t.place ≡ h.place = ap place_of f in
          rw (k, p, eq-eqb m.number m.number refl, hand_insert m.hands h.place h.octets, change_here h.place (Some h.octets) (hand_in m.hands))

  -- and its octets are those of the first frame of the queue
  pub taken_octets : listed (hand_in (take_after l d m).hands t.place) ≡ first_in (queue_in m.queues l d)
  taken_octets = rw (is_link_lem m.links l d taken_there.0 taken_there.1) (go (queue_in m.queues l d) taken_there.2)
    where
      go : (hs : List Queued) → Ok t ≡ token_of m.number hs → listed (hand_in (taken_as l d hs m).hands t.place) ≡ first_in hs
      go [] f = absurd (ok_err t NothingWaits f)
      go (h ∷ hs) f = let p : t.place ≡ h.place = ap place_of f in rw (p, hand_insert m.hands h.place h.octets, change_here h.place (Some h.octets) (hand_in m.hands))

pub take_links : (l d : ℕ) (m : Model) → (take_after l d m).links ≡ m.links
take_links l d m = go (is_link l d m) (queue_in m.queues l d)
  where
    go : (b : Bool) (hs : List Queued) → (cond b (taken_as l d hs m) m).links ≡ m.links
    go true [] = refl
    go true (h ∷ hs) = refl
    go false hs = refl

-- a frame in hand is taken home or dropped, and is passed on to a link that is there
module _ (t : InHand) (m : Model) (i : in_hand t m ≡ true) where
  pub spent : spend_answer t m ≡ Ok tt
  spent = rw i

  pub passed : (l d : ℕ) → l < m.links → d < 2 → pass_answer t l d m ≡ Ok tt
  passed l d a b = ap (handed_back t) (on_link_lem m.links l d a b (refuses (not (in_hand t m)) NotInHand (Ok tt))) ∙ spent

-- a put changes nothing in hand
pub put_keeps : (l d : ℕ) (o : List ℕ) (p : ℕ) (t : InHand) (m : Model) → in_hand t (put_after l d o p m) ≡ in_hand t m
put_keeps l d o p t m = go (put_goes l d o m)
  where
    go : (b : Bool) → in_hand t (cond b (put_in l d p o m) m) ≡ in_hand t m
    go true = refl
    go false = refl
