-- Addresses as lists of octets.
use Rattle.std.specs.Prelude.{ℕ, ◌%◌, Bool, ◌&&◌, List, length, ◌==◌, nat_lt, slice_index}
use Rattle.std.specs.List.{list_all}

-- an address is six octets
abbrev pub is_address : List ℕ → Bool
is_address a = length a == 6 && list_all (λ x. nat_lt x 256) a

-- a group address has an odd first octet
abbrev pub is_group : List ℕ → Bool
is_group a = slice_index a 0 % 2 == 1
