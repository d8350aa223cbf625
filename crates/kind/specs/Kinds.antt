-- The four kinds of frame, by the first element of each, and the two destinations.
use Rattle.std.specs.Prelude.{ℕ, cond, List, [], ◌∷◌, Some, None, codes, Option}
use Rattle.std.specs.Str.{bytes_eq}
use Rattle.kind.specs.declared.Kind.{Kind}
use Rattle.kind.specs.declared.Kind.TheVariants.{Test, TopologyChange, LinkDown, LinkUp}
use Rattle.kind.specs.declared.Destination.{Destination}
use Rattle.kind.specs.declared.Destination.TheVariants.{McTest, McControl}

-- the type octet of the first element
abbrev pub type_of : Kind → ℕ
type_of Test = 2
type_of TopologyChange = 3
type_of LinkDown = 4
type_of LinkUp = 5

-- the name that is printed
abbrev pub name_of : Kind → List ℕ
name_of Test = codes "Test"
name_of TopologyChange = codes "TopologyChange"
name_of LinkDown = codes "LinkDown"
name_of LinkUp = codes "LinkUp"

-- the octets from the version to the end of End: the frame's total but for its head
abbrev pub span_of : Kind → ℕ
span_of Test = 44
span_of TopologyChange = 36
span_of LinkDown = 38
span_of LinkUp = 38

-- where frames of this kind go
abbrev pub goes_to : Kind → Destination
goes_to Test = McTest
goes_to TopologyChange = McControl
goes_to LinkDown = McTest
goes_to LinkUp = McTest

-- 01-15-4E-00-00-01 and 01-15-4E-00-00-02
abbrev pub address_of : Destination → List ℕ
address_of McTest = 0x01 ∷ 0x15 ∷ 0x4E ∷ 0x00 ∷ 0x00 ∷ 0x01 ∷ []
address_of McControl = 0x01 ∷ 0x15 ∷ 0x4E ∷ 0x00 ∷ 0x00 ∷ 0x02 ∷ []

-- the destination that an address is, if it is one of the two
abbrev pub destination_of : List ℕ → Option Destination
destination_of a = cond (bytes_eq a (address_of McTest)) (Some McTest) (cond (bytes_eq a (address_of McControl)) (Some McControl) None)
