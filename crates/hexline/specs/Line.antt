-- What a line of hexadecimal octets says, by the list of its characters.
use Rattle.std.specs.Prelude.{ℕ, ◌+◌, ◌-◌, ◌*◌, Bool, cond, ◌&&◌, ◌||◌, List, [], ◌∷◌, take, Some, None, Option, ◌==◌, nat_le}

-- a line has no octet, or it has these (the first 61 of them, where there are more), or it is not made of octets
pub data Content : Type 0 where
  blank : Content
  octets : List ℕ → Content
  not_hex : Content

-- the value of a digit: 0 to 9, a to f, A to F
abbrev pub digit_of : ℕ → Option ℕ
digit_of c =
    cond (nat_le 48 c && nat_le c 57) (Some (c - 48))
    (cond (nat_le 97 c && nat_le c 102) (Some (c - 87)) (cond (nat_le 65 c && nat_le c 70) (Some (c - 55)) None))

-- a space, a tab, a carriage return, a colon or a dash
abbrev pub is_gap : ℕ → Bool
is_gap c = c == 32 || c == 9 || c == 13 || c == 58 || c == 45

-- the number sign, from which on a line means nothing
abbrev pub is_hash : ℕ → Bool
is_hash c = c == 35

-- two digits, and the octets after them
abbrev pub octet_then : Option ℕ → Option ℕ → Option (List ℕ) → Option (List ℕ)
octet_then None low more = None
octet_then (Some h) None more = None
octet_then (Some h) (Some l) None = None
octet_then (Some h) (Some l) (Some more) = Some ((16 * h + l) ∷ more)

-- all octets of a line, or None where some character has no place in it
abbrev pub octets_of : List ℕ → Option (List ℕ)
octets_of [] = Some []
octets_of (c ∷ []) = cond (is_hash c) (Some []) (cond (is_gap c) (Some []) None)
octets_of (c ∷ d ∷ rest) =
    cond (is_hash c) (Some []) (cond (is_gap c) (octets_of (d ∷ rest)) (octet_then (digit_of c) (digit_of d) (octets_of rest)))

-- what a line with these octets holds
abbrev pub content : Option (List ℕ) → Content
content None = not_hex
content (Some []) = blank
content (Some (o ∷ more)) = octets (take 61 (o ∷ more))

-- what a line of these characters holds
abbrev pub content_of : List ℕ → Content
content_of cs = content (octets_of cs)
