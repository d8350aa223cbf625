-- What reading a list of octets answers: the checks in their order, each with the number of its refusal.
use Rattle.std.specs.Prelude.{ℕ, ◌+◌, Bool, true, cond, ◌&&◌, List, [], ◌∷◌, length, drop, is_some, ◌==◌, nat_le}
use Rattle.std.specs.Str.{bytes_eq}
use Rattle.kind.specs.Kinds.{destination_of}
use Rattle.layout.specs.Fields.{Part, word16, part}
use Rattle.layout.specs.Elements.{Element, stands, element_at, size_of, kind_of, span_at, address_at, in_values}

-- a frame has 50 to 60 octets
abbrev pub is_sized : List ℕ → Bool
is_sized xs = nat_le 50 (length xs) && nat_le (length xs) 60

-- the head of a frame: it tells where the version begins
pub record Head : Type 0 where
  pub destination : Part
  pub source : Part
  pub ether_type : ℕ
  pub version_at : ℕ
  pub version : ℕ

abbrev pub head_of : List ℕ → Head
head_of xs = record { destination = part xs 0 6; source = part xs 6 6; ether_type = word16 xs 12; version_at = 14; version = word16 xs 14 }

-- whether all octets are zero
abbrev pub all_zero : List ℕ → Bool
all_zero [] = true
all_zero (x ∷ xs) = x == 0 && all_zero xs

pub data Reading : Type 0 where
  refused : ℕ → Reading
  -- source, first element, sequence, domain
  accepted : Part → Element → ℕ → Part → Reading

-- goes on where the test holds, else is refused by the number
abbrev pub check : Bool → ℕ → Reading → Reading
check b n next = cond b next (refused n)

-- Common at place c, then End, then zero octets
abbrev pub read_end : List ℕ → Head → Element → ℕ → Reading
read_end xs h first c =
    check (stands xs c 1 18) 9
    (check (stands xs (c + 20) 0 0) 10
    (check (all_zero (drop (h.version_at + span_at (kind_of first)) xs)) 11
    (accepted h.source first (word16 xs (c + 2)) (part xs (c + 4) 16))))

-- the first element
abbrev pub read_first : List ℕ → Head → Element → Reading
read_first xs h first =
    check (is_some (kind_of first)) 5
    (check (nat_le (h.version_at + span_at (kind_of first)) (length xs)) 6
    (check (bytes_eq h.destination.octets (address_at (kind_of first))) 7
    (check (in_values first) 8
    (read_end xs h first (h.version_at + 2 + size_of first)))))

-- the head
abbrev pub read_head : List ℕ → Head → Reading
read_head xs h =
    check (is_some (destination_of h.destination.octets)) 2
    (check (h.ether_type == 0x88E3) 3
    (check (h.version == 1) 4
    (read_first xs h (element_at xs (h.version_at + 2)))))

-- the whole frame
abbrev pub reading : List ℕ → Reading
reading xs = check (is_sized xs) 1 (read_head xs (head_of xs))
