-- The octets of a frame written out from its fields, and the law that holds every accepted frame to them.
use Rattle.std.specs.Prelude.{◌≡◌, ℕ, ◌/◌, ◌%◌, ◌<◌, List, [], ◌∷◌, ◌++◌, replicate}
use Rattle.std.specs.List.{AllByRecursion}
use Rattle.layout.specs.Fields.{Part}
use Rattle.layout.specs.Elements.{Element, test, topology_change, link_down, link_up, common, end, none, kind_of, address_at}
use Rattle.layout.specs.Reading.{Reading, refused, accepted, reading}

-- a number in two octets, and in four
abbrev pub two : ℕ → List ℕ
two n = n / 256 % 256 ∷ n % 256 ∷ []

abbrev pub four : ℕ → List ℕ
four n = n / 16777216 % 256 ∷ n / 65536 % 256 ∷ n / 256 % 256 ∷ n % 256 ∷ []

-- the octets of LinkDown and LinkUp, which differ in their type
abbrev pub link_octets : ℕ → List ℕ → ℕ → ℕ → ℕ → List ℕ
link_octets type sender role interval blocked = (type ∷ 12 ∷ []) ++ sender ++ two role ++ two interval ++ two blocked

-- the octets of an element: type, length, content
abbrev pub octets_of : Element → List ℕ
octets_of (test p s r t n c) = (2 ∷ 18 ∷ []) ++ two p ++ s.octets ++ two r ++ two t ++ two n ++ four c
octets_of (topology_change p s i) = (3 ∷ 10 ∷ []) ++ two p ++ s.octets ++ two i
octets_of (link_down s r i b) = link_octets 4 s.octets r i b
octets_of (link_up s r i b) = link_octets 5 s.octets r i b
octets_of (common n d) = (1 ∷ 18 ∷ []) ++ two n ++ d.octets
octets_of end = 0 ∷ 0 ∷ []
octets_of none = []

-- the octets of a frame: destination, source, type, version, first element, Common, End
abbrev pub encode : Part → Element → ℕ → Part → List ℕ
encode source first sequence domain =
    address_at (kind_of first) ++ source.octets ++ (0x88 ∷ 0xE3 ∷ []) ++ (0 ∷ 1 ∷ []) ++ octets_of first ++ octets_of (common sequence domain) ++ octets_of end

-- octets are the frame of the fields that they were read as, and then only zero octets
abbrev pub LaidOut : List ℕ → Reading → Type 0
LaidOut xs (refused n) = Unit {0}
LaidOut xs (accepted s e n d) = (k : ℕ) × (xs ≡ encode s e n d ++ replicate k 0)

-- every list of octets that is accepted is laid out so
abbrev pub AcceptedLaidOut : Type 0
AcceptedLaidOut = (xs : List ℕ) → AllByRecursion (λ x. x < 256) xs → LaidOut xs (reading xs)
