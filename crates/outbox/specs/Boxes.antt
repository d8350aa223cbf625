-- The four places, and what a sending does to them.
use Rattle.std.specs.Prelude.{◌≡◌, ℕ, ◌+◌, ◌≤◌, cond, List, [], ◌∷◌, ◌++◌, length, drop, replicate, nat_lt, slice_index_or, slice_set}
use Rattle.switch.specs.declared.port.Port.{Port}
use Rattle.switch.specs.declared.port.Port.TheVariants.{One}
use Rattle.settings.specs.Setups.{Setup}
use Rattle.outbox.specs.declared.message.Message.{Message}
use Rattle.outbox.specs.declared.places.Place.{Place}
use Rattle.outbox.specs.declared.places.Outbox.{Outbox}
use Rattle.outbox.specs.Messages.{octets_of, total_of}

-- one frame sent
pub record Sent : Type 0 where
  pub port : Port
  pub message : Message
  pub sequence : ℕ

-- the octets of a frame stand before what the place held past its total
abbrev pub written : Setup → Sent → Place → Place
written s f old = record { octets = octets_of s f.message f.sequence ++ drop (total_of f.message) old.octets; port = f.port; total = total_of f.message }

-- a place that no list holds
abbrev pub no_place : Place
no_place = record { octets = []; port = One; total = 0 }

abbrev pub fresh : Outbox
fresh = record { places = replicate 4 (record { octets = replicate 60 0; port = One; total = 0 }); count = 0 }

-- no place is taken
abbrev pub emptied : Outbox → Outbox
emptied o = record { places = o.places; count = 0 }

-- one frame more; where all four places are taken it goes nowhere
unfoldable pub pushed : Setup → Sent → Outbox → Outbox
pushed s f o = cond (nat_lt o.count 4) (record { places = slice_set o.places o.count (written s f (slice_index_or o.places o.count no_place)); count = o.count + 1 }) o

abbrev pub pushed_all : Setup → List Sent → Outbox → Outbox
pushed_all s [] o = o
pushed_all s (f ∷ fs) o = pushed_all s fs (pushed s f o)

-- each frame in its place, in their order; the places past them stay
abbrev pub laid : Setup → List Sent → List Place → List Place
laid s [] ps = ps
laid s (f ∷ fs) [] = []
laid s (f ∷ fs) (p ∷ ps) = written s f p ∷ laid s fs ps

-- up to four frames go into the first places, in their order
abbrev pub Laid : Type 0
Laid = (s : Setup) (fs : List Sent) (o : Outbox) → length fs ≤ 4 → pushed_all s fs (emptied o) ≡ record { places = laid s fs o.places; count = length fs }
