-- Each place stands once: kept by every move.
use Rattle.std.proofs.Common.{◌≡◌, ℕ, zero, suc, ◌+◌, ◌<◌, ◌≤◌, Bool, true, false, eqb, ltb, ◌≢◌, List, [], ◌∷◌, ◌++◌, sym, refl, ap, ◌∙◌, subst, inl, inr, arith}
use Rattle.std.proofs.lemmas.Bool.Decides.{nat_tests}
use Rattle.std.proofs.lemmas.Bool.{cases_eq}
use Rattle.store.specs.Chains.{last_or, Spots, standing, standing_in, OnceEach, EndAt, popped, popped_as, pushed}
use Rattle.store.specs.Counting.{change, count, one, sum_to}

pub change_here : {A : Type 0} (k : ℕ) (a : A) (f : ℕ → A) → change k a f k ≡ a
change_here k a f = grind (arith, nat_tests)

pub change_there : {A : Type 0} (k j : ℕ) (a : A) (f : ℕ → A) → j ≢ k → change k a f j ≡ f j
change_there k j a f ne = grind (arith, nat_tests)

pub one_few : (b : Bool) → one b ≤ 1
one_few b = grind (arith, nat_tests)

pub sum_none : (n : ℕ) → sum_to n (λ _. 0) ≡ 0
sum_none zero = refl
sum_none (suc n) = omega (arith, sum_none n)

pub sum_same : (n : ℕ) (f g : ℕ → ℕ) → ((j : ℕ) → j < n → f j ≡ g j) → sum_to n f ≡ sum_to n g
sum_same zero f g h = refl
sum_same (suc n) f g h = omega (arith, h n (omega arith), sum_same n f g (λ j less. h j (omega arith)))

pub sum_change : (n i : ℕ) (f g : ℕ → ℕ) → ((j : ℕ) → j ≢ i → f j ≡ g j) → i < n → sum_to n f + g i ≡ sum_to n g + f i
sum_change zero i f g h less = omega arith
sum_change (suc n) i f g h less = elim (cases_eq n i) [ inl e ↦ subst (λ k. (f n + sum_to n f) + g k ≡ (g n + sum_to n g) + f k) e (omega (arith, sum_same n f g (λ j below. h j (omega arith)))) | inr ne ↦ omega (arith, h n ne, sum_change n i f g h (omega (arith, ne))) ]

pub one_le : (n i : ℕ) (f : ℕ → ℕ) → i < n → f i ≤ sum_to n f
one_le n i f l = omega (arith, sum_change n i f (change i 0 f) (λ j ne. sym (change_there i j 0 f ne)) l, change_here i 0 f)

pub two_le : (n i j : ℕ) (f : ℕ → ℕ) → j ≢ i → i < n → j < n → f i + f j ≤ sum_to n f
two_le n i j f ne l m = omega (arith, sum_change n i f (change i 0 f) (λ k d. sym (change_there i k 0 f d)) l, change_here i 0 f, one_le n j (change i 0 f) m, change_there i j 0 f ne)

pub count_push : (p x : ℕ) (xs : List ℕ) → count x (xs ++ p ∷ []) ≡ count x xs + one (eqb p x)
count_push p x [] = omega arith
count_push p x (y ∷ xs) = omega (arith, count_push p x xs)

pub last_push : (t p : ℕ) (xs : List ℕ) → last_or t (xs ++ p ∷ []) ≡ p
last_push t p [] = refl
last_push t p (x ∷ xs) = last_push x p xs

pub last_rest : (t h : ℕ) (xs : List ℕ) → last_or t (h ∷ xs) ≡ t → last_or t xs ≡ t
last_rest t h [] e = refl
last_rest t h (x ∷ xs) e = e

-- one list and one hand changed
moved_in : (n : ℕ) (s : Spots) (q : ℕ) (xs : List ℕ) (h : ℕ → Bool) (x : ℕ) → q < n → count x xs + one (h x) ≡ count x (s.lanes q) + one (s.hand x) → standing_in n (record { lanes = change q xs s.lanes; hand = h }) x ≡ standing_in n s x
moved_in n s q xs h x l e = omega (arith, sum_change n q (λ j. count x (change q xs s.lanes j)) (λ j. count x (s.lanes j)) (λ j ne. ap (count x) (change_there q j xs s.lanes ne)) l, ap (count x) (change_here q xs s.lanes))

within_in : (n : ℕ) (s : Spots) (q p k : ℕ) → q < n → standing_in n s p ≡ k → count p (s.lanes q) + one (s.hand p) ≤ k
within_in n s q p k l e = omega (arith, e, one_le n q (λ j. count p (s.lanes j)) l)

apart_in : (n : ℕ) (s : Spots) (q j p k : ℕ) → j ≢ q → q < n → j < n → standing_in n s p ≡ k → count p (s.lanes q) + count p (s.lanes j) ≤ k
apart_in n s q j p k ne l m e = omega (arith, e, two_le n q j (λ i. count p (s.lanes i)) ne l m)

pub moved : (s : Spots) (q : ℕ) (xs : List ℕ) (h : ℕ → Bool) (x : ℕ) → q < 101 → count x xs + one (h x) ≡ count x (s.lanes q) + one (s.hand x) → standing (record { lanes = change q xs s.lanes; hand = h }) x ≡ standing s x
unfolding standing
moved s q xs h x l e = moved_in 101 s q xs h x l e

module _ (s : Spots) (once : OnceEach s) where
  -- a place in a list is below 128, and is not in hand
  pub within : (q p : ℕ) → q < 101 → count p (s.lanes q) + one (s.hand p) ≤ one (ltb p 128)
  unfolding standing
  within q p l = within_in 101 s q p (one (ltb p 128)) l (once p)

  -- nor in another list
  pub apart : (q j p : ℕ) → j ≢ q → q < 101 → j < 101 → count p (s.lanes q) + count p (s.lanes j) ≤ one (ltb p 128)
  unfolding standing
  apart q j p ne l m = apart_in 101 s q j p (one (ltb p 128)) ne l m (once p)

  pub pop_once : (q : ℕ) → q < 101 → OnceEach (popped q s)
  pop_once q l = go (s.lanes q) refl
    where
      go : (xs : List ℕ) → s.lanes q ≡ xs → OnceEach (popped_as q xs s)
      go [] e = once
      go (x ∷ xs) e = λ p. moved s q xs (change x true s.hand) p l (let w = within q p l in let c = ap (count p) e in grind (arith, nat_tests)) ∙ once p

  pub push_once : (q p : ℕ) → q < 101 → s.hand p ≡ true → OnceEach (pushed q p s)
  push_once q p l h = λ x. moved s q (s.lanes q ++ p ∷ []) (change p false s.hand) x l (let w = within q x l in let c = count_push p x (s.lanes q) in grind (arith, nat_tests)) ∙ once x

pub pop_ends : (s : Spots) (ts : ℕ → ℕ) → EndAt s ts → (q : ℕ) → EndAt (popped q s) ts
pop_ends s ts ends q = go (s.lanes q) refl
  where
    go : (xs : List ℕ) → s.lanes q ≡ xs → EndAt (popped_as q xs s) ts
    go [] e = ends
    go (x ∷ xs) e = λ j. elim (cases_eq j q) [ inl d ↦ rw (d, change_here q xs s.lanes) (last_rest (ts q) x xs (rw e at (ends q))) | inr ne ↦ rw (change_there q j xs s.lanes ne) (ends j) ]

pub push_ends : (s : Spots) (ts : ℕ → ℕ) → EndAt s ts → (q p : ℕ) → EndAt (pushed q p s) (change q p ts)
push_ends s ts ends q p = λ j. elim (cases_eq j q) [ inl d ↦ rw (d, change_here q (s.lanes q ++ p ∷ []) s.lanes, change_here q p ts) (last_push p p (s.lanes q)) | inr ne ↦ rw (change_there q j (s.lanes q ++ p ∷ []) s.lanes ne, change_there q j p ts ne) (ends j) ]
