-- What the search for clashes is told of an accepted frame.
use Rattle.std.specs.Prelude.{ℕ, cond, length, Some, None, Option, ◌==◌}
use Rattle.kind.specs.declared.Kind.{Kind}
use Rattle.kind.specs.Kinds.{type_of}
use Rattle.layout.specs.Fields.{Part}
use Rattle.clash.specs.Sightings.{Seen}

-- its line, sender, kind and sequence number, where the sender has six octets, as that of every accepted frame has
abbrev pub sighting_of : ℕ → Part → Kind → ℕ → Option Seen
sighting_of line sender kind sequence =
    cond (length sender.octets == 6) (Some (record { line = line; sender = sender.octets; kind = type_of kind; sequence = sequence })) None
