-- How many places pass a test: the laws of `count`.
use Rattle.std.proofs.Common.{◌≡◌, ℕ, zero, suc, ◌+◌, ◌<◌, ◌≤◌, Bool, ◌&&◌, ltb, refl, inl, inr, arith}
use Rattle.clash.specs.Clashes.{count}
use Rattle.std.proofs.lemmas.Bool.{cases_Bool, cases_lt, lt-ltb, le-ltb}

pub count_same : (p q : ℕ → Bool) (m : ℕ) → ((i : ℕ) → i < m → p i ≡ q i) → count p m ≡ count q m
count_same p q zero h = refl
count_same p q (suc m) h = rw (h m (omega arith), count_same p q m (λ i l. h i (omega arith))) refl

pub count_le : (p : ℕ → Bool) (m : ℕ) → count p m ≤ m
count_le p zero = omega arith
count_le p (suc m) = elim (cases_Bool (p m)) [ inl t ↦ rw t (omega (arith, count_le p m)) | inr f ↦ rw f (omega (arith, count_le p m)) ]

-- what passes below m, after place i: the frames strictly between i and m
abbrev pub after : (ℕ → Bool) → ℕ → ℕ → Bool
after p i k = ltb i k && p k

after_none : (p : ℕ → Bool) (i m : ℕ) → m ≤ suc i → count (after p i) m ≡ 0
after_none p i zero l = refl
after_none p i (suc m) l = rw (le-ltb i m (omega arith)) (omega (arith, after_none p i m (omega arith)))

pub count_split : (p : ℕ → Bool) (i m : ℕ) → i < m → count p m ≡ count p (suc i) + count (after p i) m
count_split p i zero l = absurd (omega arith)
count_split p i (suc m) l =
    elim (cases_lt i m) [
      | inl x ↦ rw (lt-ltb i m x) (omega (arith, count_split p i m x))
      | inr x ↦ (let e : m ≡ i = omega arith in let z = after_none p i (suc m) (omega arith) in rw (z, e) (omega arith))
    ]

-- the further back, the more lie between
pub after_more : (p : ℕ → Bool) (i k m : ℕ) → k ≤ i → count (after p i) m ≤ count (after p k) m
after_more p i k zero l = omega arith
after_more p i k (suc m) l =
    elim (cases_lt i m) [
      | inl x ↦ rw (lt-ltb i m x, lt-ltb k m (omega arith)) (omega (arith, after_more p i k m l))
      | inr x ↦ rw (le-ltb i m x) (omega (arith, after_more p i k m l))
    ]
