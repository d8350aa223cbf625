-- What a history holds, and what is true of it.
use Rattle.std.specs.Prelude.{List}
use Rattle.std.specs.HashMap.{get}
use Rattle.std.specs.Str.{bytes_eq}
use Rattle.clash.specs.Notes.{Kept, number_eq, seen_in}
use Rattle.clash.specs.Sightings.{Seen}
use Rattle.clash.specs.declared.history.History.TheInside.{Inside}

-- the accepted frames of a history, in order
abbrev pub frames_of : Inside → List Seen
frames_of h = seen_in h.noted.items

abbrev pub IsWhole : Inside → Type 0
IsWhole h = Kept h.noted.items (get bytes_eq h.counts) (get number_eq h.numbers)
