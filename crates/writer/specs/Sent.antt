-- What the fields of an outgoing frame stand for: the first element that they make, with the sender where it will stand.
use Rattle.std.specs.Prelude.{◌≡◌, ℕ, ◌+◌, ◌<◌, List, length}
use Rattle.layout.specs.Fields.{Part}
use Rattle.layout.specs.Elements.{Element, size_of}
use Rattle.layout.specs.Layout.{encode}
use Rattle.frame.specs.Shown.{shown_with}
use Rattle.frame.specs.declared.Frame.{Frame}
use Rattle.frame.specs.declared.content.Content.{Content}
use Rattle.frame.specs.declared.content.Content.TheVariants.{Test, TopologyChange, LinkDown, LinkUp}
use Rattle.frame.specs.declared.content.Link.{Link}

-- a frame to be written, by the octets of its addresses and its domain
abbrev pub Outgoing : Type 0
Outgoing = Frame (List ℕ) (List ℕ)

-- these octets at this place
abbrev pub placed : ℕ → List ℕ → Part
placed i xs = record { at = i; octets = xs }

abbrev pub body_shown : Content (List ℕ) → Element
body_shown c = shown_with placed c

-- what the types of the fields say of them
abbrev pub FitsLink : Link (List ℕ) → Type 0
FitsLink l = (length l.sender ≡ 6) × (l.interval < 65536)

abbrev pub FitsBody : Content (List ℕ) → Type 0
FitsBody (Test t) = (length t.sender ≡ 6) × (t.priority < 65536) × (t.transitions < 65536) × (t.stamp < 4294967296)
FitsBody (TopologyChange t) = (length t.sender ≡ 6) × (t.priority < 65536) × (t.interval < 65536)
FitsBody (LinkDown l) = FitsLink l
FitsBody (LinkUp l) = FitsLink l

-- the octets of the frame
abbrev pub encoded : Outgoing → List ℕ
encoded f = encode (placed 6 f.source) (body_shown f.content) f.sequence (placed (20 + size_of (body_shown f.content)) f.domain)
