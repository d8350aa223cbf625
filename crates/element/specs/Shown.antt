-- What the values of the walk stand for.
use Rattle.std.specs.Prelude.{◌≡◌, ℕ, ◌+◌, ◌≤◌, List, length, Bool, true, false, Some, None, Option}
use Rattle.layout.specs.Fields as fields
use Rattle.layout.specs.Elements as elements
use Rattle.layout.specs.Elements.{test, topology_change, link_down, link_up, common, end, none}
use Rattle.layout.specs.Reading as reading
use Rattle.element.specs.declared.part.Part.{Part}
use Rattle.element.specs.declared.head.Head.{Head}
use Rattle.element.specs.declared.walk.Element.{Element}
use Rattle.element.specs.declared.walk.Elements.{Elements}
use Rattle.element.specs.declared.walk.Element.TheVariants.{Test, TopologyChange, LinkDown, LinkUp, Common, End}

-- a part is its place and its octets
abbrev pub part_of : Part → fields.Part
part_of p = record { at = p.at; octets = p.octets.now }

abbrev pub head_shown : Head → reading.Head
head_shown h = record { destination = part_of h.destination; source = part_of h.source; ether_type = h.ether_type; version_at = h.version_at; version = h.version }

abbrev pub element_shown : Element → elements.Element
element_shown (Test t) = test t.priority (part_of t.sender) t.role t.state t.transitions t.stamp
element_shown (TopologyChange t) = topology_change t.priority (part_of t.sender) t.interval
element_shown (LinkDown l) = link_down (part_of l.sender) l.role l.interval l.blocked
element_shown (LinkUp l) = link_up (part_of l.sender) l.role l.interval l.blocked
element_shown (Common c) = common c.sequence (part_of c.domain)
element_shown End = end

-- what a step of the walk found
abbrev pub found : Option Element → elements.Element
found (Some e) = element_shown e
found None = none

-- a check that hands on what it found: it does where the test holds, and P is true of what it hands on
abbrev pub Passes : {X : Type 0} → Option X → Bool → (X → Type 0) → Type 0
Passes (Some x) b P = (b ≡ true) × P x
Passes None b P = b ≡ false

abbrev pub is_common : elements.Element → Bool
is_common (test p s r t n c) = false
is_common (topology_change p s n) = false
is_common (link_down s r n b) = false
is_common (link_up s r n b) = false
is_common (common n d) = true
is_common end = false
is_common none = false

abbrev pub is_end : elements.Element → Bool
is_end (test p s r t n c) = false
is_end (topology_change p s n) = false
is_end (link_down s r n b) = false
is_end (link_up s r n b) = false
is_end (common n d) = false
is_end end = true
is_end none = false

-- where the element is Common, these are its fields
abbrev pub CommonHas : elements.Element → ℕ → fields.Part → Type 0
CommonHas (test p s r t n c) m q = Unit {0}
CommonHas (topology_change p s n) m q = Unit {0}
CommonHas (link_down s r n b) m q = Unit {0}
CommonHas (link_up s r n b) m q = Unit {0}
CommonHas (common n d) m q = (n ≡ m) × (d ≡ q)
CommonHas end m q = Unit {0}
CommonHas none m q = Unit {0}

-- n more octets follow the place of the walk
abbrev pub HasLeft : Elements → ℕ → Type 0
HasLeft walk n = walk.at + n ≤ length walk.octets.now

-- what a step of the walk finds is what stands at place i; what this says of Common and of End follows from it, and is said for whoever reads on
pub record FoundAt (xs : List ℕ) (i : ℕ) (r : Option Element) : Type 0 where
  pub gives : found r ≡ elements.element_at xs i
  pub common : is_common (found r) ≡ elements.stands xs i 1 18
  pub fields : CommonHas (found r) (fields.word16 xs (i + 2)) (fields.part xs (i + 4) 16)
  pub end : is_end (found r) ≡ elements.stands xs i 0 0
