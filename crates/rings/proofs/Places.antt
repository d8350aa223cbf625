-- Places of a ring: the nodes beside a link, and functions changed at one place.
use Rattle.std.proofs.Common.{◌≡◌, ℕ, zero, suc, ◌<◌, ◌≤◌, Bool, true, false, cond, eqb, refl, subst, inl, inr, arith}
use Rattle.std.proofs.lemmas.Bool.{cases_eq}
use Rattle.std.proofs.lemmas.Bool.Decides.{nat_tests}
use Rattle.switch.specs.declared.port.Port.{Port}
use Rattle.switch.specs.declared.port.Port.TheVariants.{One, Two}
use Rattle.rings.specs.Places.{change, next, back, link_at, landing}

nat_eq-self : (k : ℕ) → eqb k k ≡ true
nat_eq-self k = grind (arith, nat_tests)

eqb_apart : (k j : ℕ) → (k ≡ j → ⊥) → eqb k j ≡ false
eqb_apart k j ne = grind (arith, nat_tests)

pub change_here : {A : Type 0} (k : ℕ) (a : A) (f : ℕ → A) → change k a f k ≡ a
change_here k a f = rw (nat_eq-self k)

pub change_there : {A : Type 0} (k j : ℕ) (a : A) (f : ℕ → A) → (k ≡ j → ⊥) → change k a f j ≡ f j
change_there k j a f ne = rw (eqb_apart k j ne)

-- what holds of the new values at k and of the old ones elsewhere
pub change_all : {A B C : Type 0} (P : ℕ → A → B → C → Type 0) (k j : ℕ) (a : A) (b : B) (c : C) (f : ℕ → A) (g : ℕ → B) (h : ℕ → C) → P k a b c → P j (f j) (g j) (h j) → P j (change k a f j) (change k b g j) (change k c h j)
change_all P k j a b c f g h new old = elim (cases_eq k j) [
  | inl e ↦ subst (λ i. P i (change k a f i) (change k b g i) (change k c h i)) e (rw (nat_eq-self k) new)
  | inr ne ↦ rw (eqb_apart k j ne) old
]

pub either : {A : Type 0} (P : A → Type 0) (b : Bool) (x y : A) → (b ≡ true → P x) → P y → P (cond b x y)
either P true x y hx hy = hx refl
either P false x y hx hy = hy

module _ (n : ℕ) where
  pub next_below : (i : ℕ) → i < n → next n i < n
  next_below i h = grind (arith, nat_tests)

  pub back_below : (k : ℕ) → k < n → back n k < n
  back_below zero h = omega arith
  back_below (suc k) h = omega arith

  pub next_back : (k : ℕ) → 2 ≤ n → k < n → next n (back n k) ≡ k
  next_back zero h2 h = grind (arith, nat_tests)
  next_back (suc k) h2 h = grind (arith, nat_tests)

  pub at_below : (k : ℕ) (p : Port) → k < n → link_at n k p < n
  at_below k One h = back_below k h
  at_below k Two h = h

  pub landing_below : (p : Port) (i : ℕ) → i < n → landing n p i < n
  landing_below One i h = h
  landing_below Two i h = next_below i h
