-- Loops, and what a flood lists.
use Rattle.std.specs.Prelude.{ℕ, zero, suc, ◌+◌, Bool, cond, ◌&&◌, List, [], ◌∷◌, ◌++◌, ◌==◌}
use Rattle.switch.specs.Ports.{is_forwarding}
use Rattle.switch.specs.Meanings.{Meaning}
use Rattle.rings.specs.Places.{all_to, next, turn}
use Rattle.rings.specs.Rings.{Ring}

module _ (n : ℕ) where
  -- a link passes if it is up and both ports at its ends forward
  abbrev pub passing : (ℕ → Bool) → (ℕ → Meaning) → ℕ → Bool
  passing l w i = l i && (is_forwarding (w i).second && is_forwarding (w (next n i)).first)

  abbrev pub passes : Ring → ℕ → Bool
  passes r = passing r.links r.switches

  -- a loop stands when all links pass
  abbrev pub loop : Ring → Bool
  loop r = all_to n (passes r)

  -- the nodes met to the right of node k in at most m links that pass, beginning t places from it
  abbrev pub rightward : (ℕ → Bool) → ℕ → ℕ → ℕ → List ℕ
  rightward g k zero t = []
  rightward g k (suc m) t = cond (g (turn n k t)) (turn n k (suc t) ∷ rightward g k m (suc t)) []

  -- the nodes met to the left, beginning m places to the right of node k
  abbrev pub leftward : (ℕ → Bool) → ℕ → ℕ → List ℕ
  leftward g k zero = []
  leftward g k (suc m) = cond (g (turn n k m)) (turn n k m ∷ leftward g k m) []

  -- up to and with the node itself or up to the first link that does not pass: to the right, then to the left
  abbrev pub flood : Ring → ℕ → List ℕ
  flood r k = rightward (passes r) k n 0 ++ leftward (passes r) k n

-- how often a node is listed
abbrev pub times : ℕ → List ℕ → ℕ
times j [] = 0
times j (k ∷ ks) = cond (j == k) 1 0 + times j ks
