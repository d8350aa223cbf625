-- The table of a table switch: of its entries the first ones are in use.
use Rattle.std.specs.Prelude.{ℕ, Bool, List, map, take, Option, option_map}
use Rattle.std.specs.List.{find}
use Rattle.std.specs.Str.{bytes_eq}
use Rattle.switch.specs.declared.port.Port.{Port}
use Rattle.switch.specs.declared.port.PortState.{PortState}
use Rattle.switch.specs.Meanings.{Meaning}
use Rattle.table.specs.declared.entry.Entry.{Entry}

abbrev pub addresses : List Entry → List (List ℕ)
addresses es = map (λ e. e.address.octets) es

-- whether an entry is the one of this address
abbrev pub is_for : List ℕ → Entry → Bool
is_for a e = bytes_eq e.address.octets a

-- the port of an address, by the entries in use
abbrev pub port_in : List Entry → List ℕ → Option Port
port_in es a = option_map (λ e. e.port) (find (is_for a) es)

-- the meaning of a table of which the first n entries are in use
abbrev pub table_meaning : PortState → PortState → List Entry → ℕ → Meaning
table_meaning p q es n = record { first = p; second = q; known = port_in (take n es); count = n }
