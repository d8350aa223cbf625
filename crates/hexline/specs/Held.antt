-- What a line's own invariant speaks of.
use Rattle.std.specs.Prelude.{ℕ}
use Rattle.hexline.specs.declared.reader.Place.{Place}
use Rattle.hexline.specs.declared.reader.Place.TheVariants.{Between, Half, Comment, Bad}

-- the first digit of an open octet, and 0 where none is open
abbrev pub open_digit : Place → ℕ
open_digit Between = 0
open_digit (Half high) = high
open_digit Comment = 0
open_digit Bad = 0
