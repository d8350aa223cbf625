-- The last place at which a test holds: the laws of `last_below`.
use Rattle.std.proofs.Common.{◌≡◌, ℕ, zero, suc, ◌<◌, ◌≤◌, Bool, true, false, refl, ◌∙◌, inl, inr, arith}
use Rattle.clash.specs.Places.{last_below}
use Rattle.std.proofs.lemmas.Bool.{cases_Bool, both_ways}

-- tests that agree have one last place
pub last_same : (p q : ℕ → Bool) (m : ℕ) → ((i : ℕ) → i < m → p i ≡ q i) → last_below p m ≡ last_below q m
last_same p q zero h = refl
last_same p q (suc m) h = rw (h m (omega arith), last_same p q m (λ i l. h i (omega arith))) refl

pub last_le : (p : ℕ → Bool) (m : ℕ) → last_below p m ≤ m
last_le p zero = omega arith
last_le p (suc m) = elim (cases_Bool (p m)) [ inl t ↦ rw t (omega arith) | inr f ↦ rw f (omega (arith, last_le p m)) ]

pub last_found : (p : ℕ → Bool) (m i : ℕ) → last_below p m ≡ suc i → (i < m) × (p i ≡ true)
last_found p zero i e = absurd (omega arith)
last_found p (suc m) i e =
    elim (cases_Bool (p m)) [
      | inl t ↦ (let s : suc m ≡ suc i = rw t at e in let j : m ≡ i = omega arith in (omega arith, rw j at t))
      | inr f ↦ (let s : last_below p m ≡ suc i = rw f at e in let r = last_found p m i s in (omega (arith, r.0), r.1))
    ]

pub last_here : (p : ℕ → Bool) (i : ℕ) → p i ≡ true → last_below p (suc i) ≡ suc i
last_here p i t = rw t refl

-- where a test is false at a place, the place may be left out
pub last_skip : (p : ℕ → Bool) (i : ℕ) → p i ≡ false → last_below p (suc i) ≡ last_below p i
last_skip p i f = rw f refl

-- a narrower test looks no further than the last place of a wider one
pub last_within : (p q : ℕ → Bool) (m : ℕ) → ((i : ℕ) → i < m → q i ≡ true → p i ≡ true) → last_below q m ≡ last_below q (last_below p m)
last_within p q zero h = refl
last_within p q (suc m) h =
    elim (cases_Bool (p m)) [
      | inl t ↦ rw t refl
      | inr f ↦ (
          let g : q m ≡ false = elim (cases_Bool (q m)) [ inl t ↦ absurd (both_ways (p m) f (h m (omega arith) t)) | inr n ↦ n ] in
          last_skip q m g ∙ rw f (last_within p q m (λ i l. h i (omega arith)))
          )
    ]
