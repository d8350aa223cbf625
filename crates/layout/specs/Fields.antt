-- Fields of a list of octets, the most significant octet first.
use Rattle.std.specs.Prelude.{ℕ, ◌+◌, ◌*◌, List, take, drop, slice_index}

-- the octet at place i, 0 past the end
abbrev pub octet : List ℕ → ℕ → ℕ
octet xs i = slice_index xs i

-- the two octets from place i on, as a number
abbrev pub word16 : List ℕ → ℕ → ℕ
word16 xs i = slice_index xs i * 256 + slice_index xs (i + 1)

-- the four octets from place i on, as a number
abbrev pub word32 : List ℕ → ℕ → ℕ
word32 xs i = slice_index xs i * 16777216 + slice_index xs (i + 1) * 65536 + slice_index xs (i + 2) * 256 + slice_index xs (i + 3)

-- a part of a frame: the place of its first octet, and its octets
pub record Part : Type 0 where
  pub at : ℕ
  pub octets : List ℕ

-- the n octets from place i on
abbrev pub part : List ℕ → ℕ → ℕ → Part
part xs i n = record { at = i; octets = take n (drop i xs) }
