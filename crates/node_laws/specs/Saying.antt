-- What a node sends reads back as the frame that it meant.
use Rattle.std.specs.Prelude.{◌≡◌, ◌+◌, List, [], ◌∷◌}
use Rattle.layout.specs.Elements.{size_of}
use Rattle.layout.specs.Reading.{reading, accepted}
use Rattle.writer.specs.Sent.{placed}
use Rattle.writer.specs.Sent.{body_shown}
use Rattle.switch.specs.Meanings.{Meaning}
use Rattle.settings.specs.Setups.{Setup, Within}
use Rattle.outbox.specs.Messages.{octets_of, content_of}
use Rattle.outbox.specs.Boxes.{Sent}
use Rattle.node.specs.declared.Role.{Role}
use Rattle.node_laws.specs.Histories.{Happened, after, Stamped}

-- the frame is accepted, from the node's address and of its domain, with the fields and the number that it was sent with
abbrev pub ReadsBack : Setup → Sent → Type 0
ReadsBack s f = reading (octets_of s f.message f.sequence) ≡ accepted (placed 6 s.address) (body_shown (content_of s f.message)) f.sequence (placed (20 + size_of (body_shown (content_of s f.message))) s.domain)

abbrev pub Every : (Sent → Type 0) → List Sent → Type 0
Every P [] = Unit {0}
Every P (f ∷ fs) = P f × Every P fs

-- whatever happened since a node was started, all that it sends at the last event reads back
abbrev pub AlwaysReadsBack : Type 0
AlwaysReadsBack = (r : Role) (s : Setup) (w : Meaning) (h : List Happened) → Within s → Stamped h → Every (ReadsBack s) (after r s w h).sent
