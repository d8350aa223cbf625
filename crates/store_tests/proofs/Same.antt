-- Two frames in hand that one store cannot tell apart are in hand at the same place.
use Rattle.std.proofs.Common.{◌≡◌, ℕ, true, false, eqb, List, is_some, None, Ok, Err, Option, Result, sym, ap, ◌∙◌, inl, inr}
use Rattle.refusal.specs.declared.Refusal.TheVariants.{NotInHand}
use Rattle.std.proofs.lemmas.Bool.{true≢false, cases_Bool, cases_eq, and_parts, eqb-true}
use Rattle.store.specs.declared.hand.HandedBack.{HandedBack}
use Rattle.store.specs.declared.hand.InHand.{InHand}
use Rattle.store.specs.Maps.{hand_in}
use Rattle.store.specs.Model.{Model, in_hand, spend_answer, spend_after, freed}
use Rattle.store.proofs.Lanes.{ok_err}
use Rattle.store.proofs.Maps.{hand_remove}
use Rattle.store.proofs.Standing.{change_there}
use Rattle.store.proofs.Taken.{spent}

abbrev frame_of : InHand → Result (Unit {0}) HandedBack → InHand
frame_of t (Ok u) = t
frame_of t (Err b) = b.frame

abbrev token : ℕ → ℕ → InHand
token s p = record { store = s; place = p }

module _ (t : InHand) (m : Model) where
  accepted : Ok tt ≡ spend_answer t m → in_hand t m ≡ true
  accepted e = elim (cases_Bool (in_hand t m)) [ inl y ↦ y | inr n ↦ absurd (ok_err tt (record { frame = t; refusal = NotInHand }) (rw n at e)) ]

  refused : (x : HandedBack) → Err x ≡ spend_answer t m → (x.frame ≡ t) × (in_hand t m ≡ false)
  refused x e = elim (cases_Bool (in_hand t m)) [ inl y ↦ absurd (ok_err tt x (sym (e ∙ spent t m y))) | inr n ↦ (ap (frame_of t) (rw n at e), n) ]

  is_store : in_hand t m ≡ true → t.store ≡ m.number
  is_store i = eqb-true t.store m.number (and_parts (eqb t.store m.number) (is_some (hand_in m.hands t.place)) i).0

-- a was accepted in place of b, so b is accepted where a was taken
pub in_place : (a b : InHand) (own m n : Model) (x : HandedBack) → in_hand a own ≡ true → in_hand b m ≡ true → Ok tt ≡ spend_answer a m → n ≡ spend_after a m → Err x ≡ spend_answer b n → in_hand x.frame own ≡ true
in_place a b own m n x o i ok after err =
    let j = accepted a m ok in
    let back = refused b n x err in
    let left : n ≡ freed a.place m = rw j at after in
    let store : b.store ≡ a.store = is_store b m i ∙ sym (is_store a m j) in
    let place : b.place ≡ a.place = same left back.1 in
    ap (λ (t : InHand). in_hand t own) (back.0 ∙ ap (λ s. token s b.place) store ∙ ap (λ p. token a.store p) place) ∙ o
  where
    same : n ≡ freed a.place m → in_hand b n ≡ false → b.place ≡ a.place
    same left none = elim (cases_eq b.place a.place) [ inl e ↦ e | inr ne ↦ absurd (true≢false (sym (still ne) ∙ ap (λ (y : Model). in_hand b y) (sym left) ∙ none)) ]
      where
        still : (ne : b.place ≡ a.place → ⊥) → in_hand b (freed a.place m) ≡ true
        still ne = let e : hand_in (freed a.place m).hands b.place ≡ hand_in m.hands b.place = ap (λ (h : ℕ → Option (List ℕ)). h b.place) (hand_remove m.hands a.place) ∙ change_there a.place b.place None (hand_in m.hands) ne in rw e i

-- a refused frame leaves the store as it was
pub kept : (t : InHand) (m n : Model) (x : HandedBack) → Err x ≡ spend_answer t m → n ≡ spend_after t m → n ≡ m
kept t m n x err after = rw (refused t m x err).1 at after
