-- What a dump counts: accepted frames, refused frames by the number of the refusal, and lines that are no octets.
use Rattle.std.specs.Prelude.{ℕ, ◌+◌, ◌-◌, ◌^◌, min, List, slice_index, slice_set}

-- one more, up to the largest number that is counted to
abbrev pub more : ℕ → ℕ
more n = min (n + 1) (2 ^ 64 - 1)

-- one more at place i
abbrev pub more_at : List ℕ → ℕ → List ℕ
more_at ns i = slice_set ns i (more (slice_index ns i))
