-- The frames that the search for clashes is about.
use Rattle.std.specs.Prelude.{ℕ, List}
use Rattle.clash.specs.declared.sighting.Sighting.{Sighting}
use Rattle.kind.specs.Kinds.{type_of}

-- an accepted frame: the number of its line, its sender's six octets, its kind and its sequence number
pub record Seen : Type 0 where
  pub line : ℕ
  pub sender : List ℕ
  pub kind : ℕ
  pub sequence : ℕ

-- what the code holds of a frame
abbrev pub shown : Sighting → Seen
shown s = record { line = s.line; sender = s.sender; kind = type_of s.kind; sequence = s.sequence }
