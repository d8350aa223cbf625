-- Functions from numbers with one value changed, sums of them, and how often a number stands in a list.
use Rattle.std.specs.Prelude.{ℕ, zero, suc, ◌+◌, Bool, cond, ◌&&◌, List, [], ◌∷◌, ◌==◌}

-- f, but v at i
abbrev pub change : {A : Type 0} → ℕ → A → (ℕ → A) → ℕ → A
change i v f j = cond (i == j) v (f j)

-- f, but v at i and j
abbrev pub change2 : {A : Type 0} → ℕ → ℕ → A → (ℕ → ℕ → A) → ℕ → ℕ → A
change2 i j v f l d = cond (i == l && j == d) v (f l d)

-- the sum of the first n values
abbrev pub sum_to : ℕ → (ℕ → ℕ) → ℕ
sum_to zero f = 0
sum_to (suc n) f = f n + sum_to n f

-- 1 for true
abbrev pub one : Bool → ℕ
one b = cond b 1 0

-- how often p stands in a list
abbrev pub count : ℕ → List ℕ → ℕ
count p [] = 0
count p (x ∷ xs) = one (x == p) + count p xs
