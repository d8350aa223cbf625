-- Decimal numbers, by the list of their characters.
use Rattle.std.specs.Prelude.{ℕ, ◌+◌, ◌-◌, ◌*◌, min, cond, ◌&&◌, List, [], ◌∷◌, length, Some, None, Option, ◌==◌, nat_le}
use Rattle.std.specs.Option.{option_map}

-- the number that digits write behind those of n
abbrev pub digits_after : ℕ → List ℕ → Option ℕ
digits_after n [] = Some n
digits_after n (c ∷ rest) = cond (nat_le 48 c && nat_le c 57) (digits_after (10 * n + (c - 48)) rest) None

-- the number, or 65,535 where it is above
abbrev pub capped : ℕ → ℕ
capped n = min n 65535

-- what a word says as a number, where it is one or more digits
abbrev pub decimal_of : List ℕ → Option ℕ
decimal_of word = cond (length word == 0) None (option_map capped (digits_after 0 word))
