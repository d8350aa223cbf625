-- What a frame says to a node: only a readable frame of its domain says anything.
use Rattle.std.specs.Prelude.{ℕ, Bool, cond, ◌&&◌, List, length, take, Some, None, Option, is_some, nat_le}
use Rattle.std.specs.Str.{bytes_eq}
use Rattle.kind.specs.Kinds.{destination_of}
use Rattle.layout.specs.Elements.{Element, test, topology_change, link_down, link_up, common, end, none}
use Rattle.layout.specs.Reading.{Reading, refused, accepted, reading}
use Rattle.settings.specs.Setups.{Setup}
use Rattle.hearing.specs.declared.Heard.{Heard}
use Rattle.hearing.specs.declared.Heard.TheVariants.{OwnTest, LinkFrame, TopologyChange}

-- a Test is the node's own by its sender
abbrev pub said : Setup → Element → Option Heard
said s (test p a r t n c) = cond (bytes_eq a.octets s.address) (Some OwnTest) None
said s (topology_change p a i) = Some (TopologyChange i)
said s (link_down a r i b) = Some LinkFrame
said s (link_up a r i b) = Some LinkFrame
said s (common n d) = None
said s end = None
said s none = None

abbrev pub understood : Setup → Reading → Option Heard
understood s (refused n) = None
understood s (accepted source e n d) = cond (bytes_eq d.octets s.domain) (said s e) None

-- what the octets of a frame say to a node
unfoldable pub heard : Setup → List ℕ → Option Heard
heard s xs = understood s (reading xs)

-- a frame to one of the two MRP addresses, readable or not
abbrev pub is_mrp : List ℕ → Bool
is_mrp xs = nat_le 6 (length xs) && is_some (destination_of (take 6 xs))
