-- What the code's values stand for.
use Rattle.std.specs.Prelude.{ℕ, List, [], ◌∷◌, ◌++◌, take, Some, None, Option}
use Rattle.hexline.specs.declared.reader.Line.{Line}
use Rattle.hexline.specs.declared.reader.Place.{Place}
use Rattle.hexline.specs.declared.reader.Place.TheVariants.{Between, Half, Comment, Bad}
use Rattle.hexline.specs.declared.reader.Reading.{Reading}
use Rattle.hexline.specs.declared.reader.Reading.TheVariants.{Blank, Octets, NotHex}
use Rattle.hexline.specs.Line.{Content, blank, octets, not_hex, digit_of, octet_then, octets_of, content}

-- the octets that these characters still give, from this place in a line on
abbrev pub octets_from : Place → List ℕ → Option (List ℕ)
octets_from Between rest = octets_of rest
octets_from (Half high) [] = None
octets_from (Half high) (c ∷ rest) = octet_then (Some high) (digit_of c) (octets_of rest)
octets_from Comment rest = Some []
octets_from Bad rest = None

-- the octets that are kept
abbrev pub front : Line → List ℕ
front line = take line.count line.kept

-- what the line holds if these octets follow those that it keeps
abbrev pub begun_with : Line → Option (List ℕ) → Content
begun_with line None = not_hex
begun_with line (Some more) = content (Some (front line ++ more))

-- what the line holds if these characters still follow: `new` begins it, `feed` takes the next character, `reading` ends it
abbrev pub holds : Line → List ℕ → Content
holds line rest = begun_with line (octets_from line.place rest)

-- what a reading says
abbrev pub shown : Reading → Content
shown Blank = blank
shown (Octets found) = octets found.now
shown NotHex = not_hex
