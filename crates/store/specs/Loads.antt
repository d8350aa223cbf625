-- A store without its places: what waits, as octets alone, and how many places are free.
use Rattle.std.specs.Prelude.{ℕ, ◌+◌, ◌-◌, Bool, cond, not, ◌&&◌, List, [], ◌∷◌, ◌++◌, nat_lt}
use Rattle.store.specs.Counting.{change2}
use Rattle.store.specs.Laws.{contents_of}
use Rattle.store.specs.Maps.{queue_in}
use Rattle.store.specs.Model.{Model, wrong_length}

-- what waits on each link in each direction, first in front
pub record Load : Type 0 where
  pub links : ℕ
  pub free : ℕ
  pub queues : ℕ → ℕ → List (List ℕ)

-- of these parts
abbrev pub load : ℕ → ℕ → (ℕ → ℕ → List (List ℕ)) → Load
load n f q = record { links = n; free = f; queues = q }

-- what is left of a store without its places
abbrev pub load_of : Model → Load
load_of m = load m.links m.free (λ l d. contents_of (queue_in m.queues l d))

-- the link and the direction are there
abbrev pub has_link : ℕ → ℕ → Load → Bool
has_link l d s = nat_lt l s.links && nat_lt d 2

-- the octets wait last in a queue, with this many places free
abbrev pub joins : ℕ → ℕ → List ℕ → ℕ → Load → Load
joins l d o f s = load s.links f (change2 l d (s.queues l d ++ o ∷ []) s.queues)

-- put
abbrev pub put_load : ℕ → ℕ → List ℕ → Load → Load
put_load l d o s = cond (not (wrong_length o) && (has_link l d s && nat_lt 0 s.free)) (joins l d o (s.free - 1) s) s

-- the first of a queue leaves it
abbrev pub leaves : ℕ → ℕ → List (List ℕ) → Load → Load
leaves l d [] s = s
leaves l d (o ∷ os) s = load s.links s.free (change2 l d os s.queues)

-- take
abbrev pub take_load : ℕ → ℕ → Load → Load
take_load l d s = cond (has_link l d s) (leaves l d (s.queues l d) s) s

-- a frame in hand with these octets is passed on
abbrev pub pass_load : ℕ → ℕ → List ℕ → Load → Load
pass_load l d o s = cond (has_link l d s) (joins l d o s.free s) s

-- a frame in hand is taken home or dropped
abbrev pub spend_load : Load → Load
spend_load s = load s.links (s.free + 1) s.queues
