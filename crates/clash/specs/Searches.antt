-- What a search for clashes still finds.
use Rattle.std.specs.Prelude.{ℕ, List}
use Rattle.clash.specs.Clashes.{partners}
use Rattle.clash.specs.declared.clashes.Clashes.{Clashes}

-- the lines of the frames from the place of the search back that its frame clashes with
abbrev pub lines_left : Clashes → List ℕ
lines_left s = partners s.history.now s.place s.at
