-- The places of a ring of n nodes: link i joins port 2 of node i to port 1 of the next node.
use Rattle.std.specs.Prelude.{ℕ, zero, suc, ◌+◌, ◌-◌, Bool, true, cond, ◌&&◌, ◌==◌, nat_lt}
use Rattle.switch.specs.declared.port.Port.{Port}
use Rattle.switch.specs.declared.port.Port.TheVariants.{One, Two}

-- a function of places, changed at one of them
abbrev pub change : {A : Type 0} → ℕ → A → (ℕ → A) → ℕ → A
change i v f j = cond (i == j) v (f j)

-- the sum over the places below n
abbrev pub sum_to : ℕ → (ℕ → ℕ) → ℕ
sum_to zero f = 0
sum_to (suc n) f = f n + sum_to n f

-- whether all places below n pass
abbrev pub all_to : ℕ → (ℕ → Bool) → Bool
all_to zero f = true
all_to (suc n) f = f n && all_to n f

module _ (n : ℕ) where
  -- the node to the right
  abbrev pub next : ℕ → ℕ
  next i = cond (suc i == n) 0 (suc i)

  -- the node to the left
  abbrev pub back : ℕ → ℕ
  back zero = n - 1
  back (suc k) = k

  -- the link at a port of node k
  abbrev pub link_at : ℕ → Port → ℕ
  link_at k One = back k
  link_at k Two = k

  -- the node that a frame comes to which left by port p over link i
  abbrev pub landing : Port → ℕ → ℕ
  landing One i = i
  landing Two i = next i

  -- the node t places to the right of node k
  abbrev pub turn : ℕ → ℕ → ℕ
  turn k t = cond (nat_lt (k + t) n) (k + t) ((k + t) - n)
