-- The elements of a frame: a type octet, a length octet, and that many octets of content.
use Rattle.std.specs.Prelude.{ℕ, ◌+◌, ◌%◌, Bool, false, cond, ◌&&◌, List, [], length, Some, None, Option, ◌==◌, nat_le}
use Rattle.kind.specs.declared.Kind.{Kind}
use Rattle.kind.specs.declared.Kind.TheVariants.{Test, TopologyChange, LinkDown, LinkUp}
use Rattle.kind.specs.Kinds.{span_of, goes_to, address_of}
use Rattle.layout.specs.Fields.{Part, octet, word16, word32, part}

-- an element by its fields, in the order of their octets; none where no element stands
pub data Element : Type 0 where
  -- priority, sender, port role, ring state, transitions, time stamp
  test : ℕ → Part → ℕ → ℕ → ℕ → ℕ → Element
  -- priority, sender, interval
  topology_change : ℕ → Part → ℕ → Element
  -- sender, port role, interval, blocked
  link_down : Part → ℕ → ℕ → ℕ → Element
  link_up : Part → ℕ → ℕ → ℕ → Element
  -- sequence, domain
  common : ℕ → Part → Element
  end : Element
  none : Element

-- whether an element of type t with n octets of content stands at place i
unfoldable pub stands : List ℕ → ℕ → ℕ → ℕ → Bool
stands xs i t n = octet xs i == t && (octet xs (i + 1) == n && nat_le (i + 2 + n) (length xs))

-- the elements that may stand at place i, each by the places of its fields
abbrev pub test_at : List ℕ → ℕ → Element
test_at xs i = test (word16 xs (i + 2)) (part xs (i + 4) 6) (word16 xs (i + 10)) (word16 xs (i + 12)) (word16 xs (i + 14)) (word32 xs (i + 16))

abbrev pub topology_change_at : List ℕ → ℕ → Element
topology_change_at xs i = topology_change (word16 xs (i + 2)) (part xs (i + 4) 6) (word16 xs (i + 10))

abbrev pub link_down_at : List ℕ → ℕ → Element
link_down_at xs i = link_down (part xs (i + 2) 6) (word16 xs (i + 8)) (word16 xs (i + 10)) (word16 xs (i + 12))

abbrev pub link_up_at : List ℕ → ℕ → Element
link_up_at xs i = link_up (part xs (i + 2) 6) (word16 xs (i + 8)) (word16 xs (i + 10)) (word16 xs (i + 12))

abbrev pub common_at : List ℕ → ℕ → Element
common_at xs i = common (word16 xs (i + 2)) (part xs (i + 4) 16)

-- the element that stands at place i, by its type and length
unfoldable pub element_at : List ℕ → ℕ → Element
element_at xs i =
    cond (stands xs i 2 18) (test_at xs i)
    (cond (stands xs i 3 10) (topology_change_at xs i)
    (cond (stands xs i 4 12) (link_down_at xs i)
    (cond (stands xs i 5 12) (link_up_at xs i)
    (cond (stands xs i 1 18) (common_at xs i)
    (cond (stands xs i 0 0) end none)))))

-- how many octets an element has, with its type and length
abbrev pub size_of : Element → ℕ
size_of (test p s r t n c) = 20
size_of (topology_change p s i) = 12
size_of (link_down s r i b) = 14
size_of (link_up s r i b) = 14
size_of (common n d) = 20
size_of end = 2
size_of none = 0

-- the kind of frame that begins with the element
abbrev pub kind_of : Element → Option Kind
kind_of (test p s r t n c) = Some Test
kind_of (topology_change p s i) = Some TopologyChange
kind_of (link_down s r i b) = Some LinkDown
kind_of (link_up s r i b) = Some LinkUp
kind_of (common n d) = None
kind_of end = None
kind_of none = None

-- how many octets a frame of this kind has from its version to the end of End; none where there is no kind
abbrev pub span_at : Option Kind → ℕ
span_at (Some k) = span_of k
span_at None = 0

-- the address that a frame of this kind goes to
abbrev pub address_at : Option Kind → List ℕ
address_at (Some k) = address_of (goes_to k)
address_at None = []

-- a priority is a multiple of 0x1000
abbrev pub is_priority : ℕ → Bool
is_priority p = p % 0x1000 == 0

-- whether it is a first element whose fields have their values: port role, ring state and blocked are 0 or 1
abbrev pub in_values : Element → Bool
in_values (test p s r t n c) = is_priority p && (nat_le r 1 && nat_le t 1)
in_values (topology_change p s i) = is_priority p
in_values (link_down s r i b) = nat_le r 1 && nat_le b 1
in_values (link_up s r i b) = nat_le r 1 && nat_le b 1
in_values (common n d) = false
in_values end = false
in_values none = false
