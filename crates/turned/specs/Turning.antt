-- A switch with its ring ports 1 and 2 exchanged.
use Rattle.std.specs.Prelude.{◌≡◌, option_map}
use Rattle.switch.specs.Ports.{other}
use Rattle.switch.specs.Meanings.{Meaning}

-- each port has the other's state, and each known address stands at the other port
abbrev pub exchanged : Meaning → Meaning
exchanged m = record { first = m.second; second = m.first; known = λ a. option_map other (m.known a); count = m.count }

-- turning twice is no change of meaning
abbrev pub TurnedTwice : Type 0
TurnedTwice = (m : Meaning) → exchanged (exchanged m) ≡ m
