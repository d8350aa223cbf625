-- How often a flood lists a node.
use Rattle.std.proofs.Common.{◌≡◌, ℕ, zero, suc, ◌+◌, ◌-◌, ◌<◌, ◌≤◌, Bool, true, false, cond, ◌&&◌, eqb, ltb, leb, ◌⊎◌, List, [], ◌∷◌, ◌++◌, sym, refl, ◌∙◌, subst, inl, inr, le_of_lt, arith}
use Rattle.std.proofs.lemmas.Bool.Decides.{nat_tests}
use Rattle.std.proofs.lemmas.Bool.{cases_eq, cases_lt, both_ways}
use Rattle.rings.specs.Places.{all_to, turn}
use Rattle.rings.specs.Floods.{rightward, leftward, times}
use Rattle.rings.proofs.Loops.{all_at, never}

-- p holds from a to before b
abbrev span : (ℕ → Bool) → ℕ → ℕ → Bool
span p a zero = true
span p a (suc b) = cond (leb a b) (p b && span p a b) true

span_none : (p : ℕ → Bool) (a b : ℕ) → b ≤ a → span p a b ≡ true
span_none p a zero h = refl
span_none p a (suc b) h = grind (arith, nat_tests)

span_front : (p : ℕ → Bool) (a b : ℕ) → a < b → span p a b ≡ (p a && span p (suc a) b)
span_front p a zero h = grind arith
span_front p a (suc b) h = grind (arith, nat_tests, span_none, span_front p a b)

full : (x y : Bool) → y ≡ true → x ≡ (x && y)
full x y e = grind arith

span_cut : (p : ℕ → Bool) (a b : ℕ) → a ≤ b → span p 0 b ≡ (span p 0 a && span p a b)
span_cut p a zero h = grind (arith, nat_tests, span_none)
span_cut p a (suc b) h = elim (cases_eq (suc b) a) [ inl e ↦ subst (λ x. span p 0 (suc b) ≡ (span p 0 x && span p x (suc b))) e (full (span p 0 (suc b)) (span p (suc b) (suc b)) (span_none p (suc b) (suc b) (omega arith))) | inr ne ↦ grind (arith, nat_tests, span_cut p a b) ]

times-++ : (j : ℕ) (xs ys : List ℕ) → times j (xs ++ ys) ≡ times j xs + times j ys
times-++ j [] ys = omega arith
times-++ j (x ∷ xs) ys = omega (arith, times-++ j xs ys)

-- a span and its places
span_at : (p : ℕ → Bool) (a b i : ℕ) → span p a b ≡ true → a ≤ i → i < b → p i ≡ true
span_at p a zero i e ha hb = grind arith
span_at p a (suc b) i e ha hb = elim (cases_eq b i) [ inl is ↦ grind (arith, nat_tests) | inr ne ↦ grind (arith, nat_tests, span_at p a b i) ]

span_all : (p : ℕ → Bool) (a b : ℕ) → ((i : ℕ) → a ≤ i → i < b → p i ≡ true) → span p a b ≡ true
span_all p a zero h = refl
span_all p a (suc b) h = elim (cases_lt b a) [ inl less ↦ span_none p a (suc b) less | inr more ↦ grind (arith, nat_tests, h b, span_all p a b (λ i lo hi. h i lo (omega arith))) ]

pub all_all : (n : ℕ) (f : ℕ → Bool) → ((i : ℕ) → i < n → f i ≡ true) → all_to n f ≡ true
all_all zero f h = refl
all_all (suc n) f h = grind (arith, h n, all_all n f (λ i less. h i (omega arith)))

-- one more link to the left, over what the lists and the walk come to
one_more : (g : Bool) (j i : ℕ) (l : List ℕ) (x m : ℕ) (b : Bool) → eqb j i ≡ eqb x m → times j l ≡ cond (ltb x m && b) 1 0 → (m ≤ x → b ≡ true) → times j (cond g (i ∷ l) []) ≡ cond (ltb x (suc m) && cond (leb x m) (g && b) true) 1 0
one_more g j i l x m b here before none = grind (arith, nat_tests)

-- one link more to the right
one_right : (g : Bool) (j i : ℕ) (l : List ℕ) (x t m : ℕ) (b c : Bool) → eqb j i ≡ eqb x (suc t) → times j l ≡ cond (ltb (suc t) x && (leb x (suc t + m) && b)) 1 0 → (t < x → c ≡ (g && b)) → (x ≤ suc t → b ≡ true) → times j (cond g (i ∷ l) []) ≡ cond (ltb t x && (leb x (t + suc m) && c)) 1 0
one_right g j i l x t m b c here before front none = grind (arith, nat_tests)

module _ (n k : ℕ) (k< : k < n) where
  pub turn_below : (t : ℕ) → t ≤ n → turn n k t < n
  turn_below t h = grind (arith, nat_tests)

  turn_apart : (x y : ℕ) → x < n → y < n → eqb (turn n k x) (turn n k y) ≡ eqb x y
  turn_apart x y hx hy = grind (arith, nat_tests)

  left_times : (g : ℕ → Bool) (m x : ℕ) → m ≤ n → x < n → times (turn n k x) (leftward n g k m) ≡ cond (ltb x m && span (λ a. g (turn n k a)) x m) 1 0
  left_times g zero x hm hx = grind (arith, nat_tests)
  left_times g (suc m) x hm hx =
      let before : times (turn n k x) (leftward n g k m) ≡ cond (ltb x m && span (λ a. g (turn n k a)) x m) 1 0 = left_times g m x (omega arith) hx in
      let here : eqb (turn n k x) (turn n k m) ≡ eqb x m = turn_apart x m hx hm in
      let none : m ≤ x → span (λ a. g (turn n k a)) x m ≡ true = span_none (λ a. g (turn n k a)) x m in
      one_more (g (turn n k m)) (turn n k x) (turn n k m) (leftward n g k m) x m (span (λ a. g (turn n k a)) x m) here before none

  right_times : (g : ℕ → Bool) (m t x : ℕ) → t + m ≤ n → 0 < x → x ≤ n → times (turn n k x) (rightward n g k m t) ≡ cond (ltb t x && (leb x (t + m) && span (λ a. g (turn n k a)) t x)) 1 0
  right_times g zero t x hm h0 hx = grind (arith, nat_tests)
  right_times g (suc m) t x hm h0 hx =
      let p : ℕ → Bool = λ a. g (turn n k a) in
      let here : eqb (turn n k x) (turn n k (suc t)) ≡ eqb x (suc t) = grind (arith, nat_tests) in
      one_right (g (turn n k t)) (turn n k x) (turn n k (suc t)) (rightward n g k m (suc t)) x t m (span p (suc t) x) (span p t x)
      here (right_times g m (suc t) x (omega arith) h0 hx) (span_front p t x) (span_none p (suc t) x)

  -- a node other than k is met to the right if the links before it pass, and to the left if those after it do
  abbrev listed : (ℕ → Bool) → List ℕ
  listed g = rightward n g k n 0 ++ leftward n g k n

  other_times : (g : ℕ → Bool) (x : ℕ) → 0 < x → x < n → times (turn n k x) (listed g) ≡ cond (span (λ a. g (turn n k a)) 0 x) 1 0 + cond (span (λ a. g (turn n k a)) x n) 1 0
  other_times g x h0 hx =
      let a : times (turn n k x) (listed g) ≡ times (turn n k x) (rightward n g k n 0) + times (turn n k x) (leftward n g k n) = times-++ (turn n k x) (rightward n g k n 0) (leftward n g k n) in
      let b : times (turn n k x) (rightward n g k n 0) ≡ cond (ltb 0 x && (leb x (0 + n) && span (λ a. g (turn n k a)) 0 x)) 1 0 = right_times g n 0 x (omega arith) h0 (omega arith) in
      let c : times (turn n k x) (leftward n g k n) ≡ cond (ltb x n && span (λ a. g (turn n k a)) x n) 1 0 = left_times g n x (omega arith) hx in
      joined (times (turn n k x) (listed g)) (times (turn n k x) (rightward n g k n 0)) (times (turn n k x) (leftward n g k n)) (span (λ a. g (turn n k a)) 0 x) (span (λ a. g (turn n k a)) x n) a b c
    where
      joined : (z u v : ℕ) (d e : Bool) → z ≡ u + v → u ≡ cond (ltb 0 x && (leb x (0 + n) && d)) 1 0 → v ≡ cond (ltb x n && e) 1 0 → z ≡ cond d 1 0 + cond e 1 0
      joined z u v d e a b c = grind (arith, nat_tests)

  self_times : (g : ℕ → Bool) → times k (listed g) ≡ cond (span (λ a. g (turn n k a)) 0 n) 1 0 + cond (span (λ a. g (turn n k a)) 0 n) 1 0
  self_times g =
      let here : turn n k 0 ≡ k = grind (arith, nat_tests) in
      let round : turn n k n ≡ k = grind (arith, nat_tests) in
      let a : times k (listed g) ≡ times k (rightward n g k n 0) + times k (leftward n g k n) = times-++ k (rightward n g k n 0) (leftward n g k n) in
      let b : times k (rightward n g k n 0) ≡ cond (ltb 0 n && (leb n (0 + n) && span (λ a. g (turn n k a)) 0 n)) 1 0 = rw round at (right_times g n 0 n (omega arith) (omega arith) (omega arith)) in
      let c : times k (leftward n g k n) ≡ cond (ltb 0 n && span (λ a. g (turn n k a)) 0 n) 1 0 = rw here at (left_times g n 0 (omega arith) (omega arith)) in
      joined (times k (listed g)) (times k (rightward n g k n 0)) (times k (leftward n g k n)) (span (λ a. g (turn n k a)) 0 n) a b c
    where
      joined : (z u v : ℕ) (d : Bool) → z ≡ u + v → u ≡ cond (ltb 0 n && (leb n (0 + n) && d)) 1 0 → v ≡ cond (ltb 0 n && d) 1 0 → z ≡ cond d 1 0 + cond d 1 0
      joined z u v d a b c = grind (arith, nat_tests)

  -- no other number is listed
  right_none : (g : ℕ → Bool) (m t j : ℕ) → t + m ≤ n → n ≤ j → times j (rightward n g k m t) ≡ 0
  right_none g zero t j h hj = refl
  right_none g (suc m) t j h hj = grind (arith, nat_tests, turn_below (suc t), right_none g m (suc t) j)

  left_none : (g : ℕ → Bool) (m j : ℕ) → m ≤ n → n ≤ j → times j (leftward n g k m) ≡ 0
  left_none g zero j h hj = refl
  left_none g (suc m) j h hj = grind (arith, nat_tests, turn_below m, left_none g m j)

  -- how far to the right of k node j lies
  abbrev away : ℕ → ℕ
  away j = cond (leb k j) (j - k) ((j + n) - k)

  away_below : (j : ℕ) → j < n → away j < n
  away_below j h = grind (arith, nat_tests)

  turn_away : (j : ℕ) → j < n → turn n k (away j) ≡ j
  turn_away j h = grind (arith, nat_tests)

  span_all_links : (g : ℕ → Bool) → span (λ a. g (turn n k a)) 0 n ≡ true → all_to n g ≡ true
  span_all_links g e = all_all n g (λ i h. subst (λ j. g j ≡ true) (turn_away i h) (span_at (λ a. g (turn n k a)) 0 n (away i) e (omega arith) (away_below i h)))

  all_links_span : (g : ℕ → Bool) → all_to n g ≡ true → span (λ a. g (turn n k a)) 0 n ≡ true
  all_links_span g e = span_all (λ a. g (turn n k a)) 0 n (λ i _ h. all_at n g (turn n k i) (turn_below i (omega arith)) e)

  pub loop_twice : (g : ℕ → Bool) → 2 ≤ n → all_to n g ≡ true → times (turn n k 1) (listed g) ≡ 2
  loop_twice g h2 e =
      let whole : span (λ a. g (turn n k a)) 0 n ≡ true = all_links_span g e in
      let cut : span (λ a. g (turn n k a)) 0 n ≡ (span (λ a. g (turn n k a)) 0 1 && span (λ a. g (turn n k a)) 1 n) = span_cut (λ a. g (turn n k a)) 1 n (omega arith) in
      two_of (times (turn n k 1) (listed g)) (span (λ a. g (turn n k a)) 0 n) (span (λ a. g (turn n k a)) 0 1) (span (λ a. g (turn n k a)) 1 n) (other_times g 1 (omega arith) h2) whole cut
    where
      two_of : (z : ℕ) (w d e : Bool) → z ≡ cond d 1 0 + cond e 1 0 → w ≡ true → w ≡ (d && e) → z ≡ 2
      two_of z w d e a b c = grind arith

  pub twice_loop : (g : ℕ → Bool) (j : ℕ) → 2 ≤ times j (listed g) → all_to n g ≡ true
  twice_loop g j h = elim (cases_lt j n) [ inl less ↦ inside less | inr more ↦ outside more ]
    where
      outside : n ≤ j → all_to n g ≡ true
      outside more = absurd (omega (arith, times-++ j (rightward n g k n 0) (leftward n g k n), right_none g n 0 j (omega arith) more, left_none g n j (omega arith) more))

      both_spans : (z : ℕ) (d e : Bool) → z ≡ cond d 1 0 + cond e 1 0 → 2 ≤ z → (d && e) ≡ true
      both_spans z d e a b = grind arith

      self : j ≡ k → span (λ a. g (turn n k a)) 0 n ≡ true
      self is = one_of (times j (listed g)) (span (λ a. g (turn n k a)) 0 n) (subst (λ i. times i (listed g) ≡ cond (span (λ a. g (turn n k a)) 0 n) 1 0 + cond (span (λ a. g (turn n k a)) 0 n) 1 0) (sym is) (self_times g)) h
        where
          one_of : (z : ℕ) (d : Bool) → z ≡ cond d 1 0 + cond d 1 0 → 2 ≤ z → d ≡ true
          one_of z d a b = grind arith

      elsewhere : j < n → (j ≡ k → ⊥) → span (λ a. g (turn n k a)) 0 n ≡ true
      elsewhere less ne =
          let x : ℕ = away j in
          let some : 0 < x = grind (arith, nat_tests) in
          let t : times j (listed g) ≡ cond (span (λ a. g (turn n k a)) 0 x) 1 0 + cond (span (λ a. g (turn n k a)) x n) 1 0 = subst (λ i. times i (listed g) ≡ cond (span (λ a. g (turn n k a)) 0 x) 1 0 + cond (span (λ a. g (turn n k a)) x n) 1 0) (turn_away j less) (other_times g x some (away_below j less)) in
          span_cut (λ a. g (turn n k a)) x n (le_of_lt (away_below j less)) ∙ both_spans (times j (listed g)) (span (λ a. g (turn n k a)) 0 x) (span (λ a. g (turn n k a)) x n) t h

      inside : j < n → all_to n g ≡ true
      inside less = span_all_links g (elim (cases_eq j k) [ inl is ↦ self is | inr ne ↦ elsewhere less ne ])

  -- all links but one pass: each other node is met once
  pub gap_once : (g : ℕ → Bool) (b j : ℕ) → b < n → g b ≡ false → ((i : ℕ) → i < n → (i ≡ b → ⊥) → g i ≡ true) → j < n → (j ≡ k → ⊥) → times j (listed g) ≡ 1
  gap_once g b j hb shut pass hj ne =
      let x : ℕ = away j in
      let some : 0 < x = grind (arith, nat_tests) in
      let t : times j (listed g) ≡ cond (span p 0 x) 1 0 + cond (span p x n) 1 0 = subst (λ i. times i (listed g) ≡ cond (span p 0 x) 1 0 + cond (span p x n) 1 0) (turn_away j hj) (other_times g x some (away_below j hj)) in
      one_side (times j (listed g)) (span p 0 x) (span p x n) t (elim (cases_lt (away b) x) [ inl before ↦ inr (not_span 0 x (omega arith) before, span_all p x n (λ i lo hi. passes_at i hi (omega arith))) | inr behind ↦ inl (span_all p 0 x (λ i lo hi. passes_at i (omega (arith, away_below j hj)) (omega arith)), not_span x n behind (away_below b hb)) ])
    where
      p : ℕ → Bool
      p a = g (turn n k a)

      one_side : (z : ℕ) (d e : Bool) → z ≡ cond d 1 0 + cond e 1 0 → ((d ≡ true) × (e ≡ false)) ⊎ ((d ≡ false) × (e ≡ true)) → z ≡ 1
      one_side z d e a b = grind arith

      not_span : (lo hi : ℕ) → lo ≤ away b → away b < hi → span p lo hi ≡ false
      not_span lo hi h₁ h₂ = never (span p lo hi) (λ e. both_ways (g b) shut (subst (λ i. g i ≡ true) (turn_away b hb) (span_at p lo hi (away b) e h₁ h₂)))

      passes_at : (i : ℕ) → i < n → (i ≡ away b → ⊥) → p i ≡ true
      passes_at i h ne = pass (turn n k i) (turn_below i (omega arith)) (λ e. grind (arith, nat_tests))
