-- The frame that a message makes under the settings of a node.
use Rattle.std.specs.Prelude.{ℕ, true, List}
use Rattle.frame.specs.declared.field.PortRole.TheVariants.{Secondary}
use Rattle.frame.specs.declared.content.Content.{Content}
use Rattle.frame.specs.declared.content.Content.TheVariants as content
use Rattle.frame.specs.declared.content.Link.{Link}
use Rattle.writer.specs.Sent.{Outgoing, encoded}
use Rattle.settings.specs.Setups.{Setup}
use Rattle.outbox.specs.declared.message.Message.{Message}
use Rattle.outbox.specs.declared.message.Message.TheVariants.{Test, TopologyChange, LinkDown, LinkUp}

-- a client's link frame: port role 1, and it can block
abbrev pub link_of : List ℕ → ℕ → Link (List ℕ)
link_of sender i = record { sender = sender; role = Secondary; interval = i; blocked = true }

abbrev pub content_of : Setup → Message → Content (List ℕ)
content_of s (Test r c n t) = content.Test (record { priority = s.priority; sender = s.address; role = r; state = c; transitions = n; stamp = t })
content_of s (TopologyChange i) = content.TopologyChange (record { priority = s.priority; sender = s.address; interval = i })
content_of s (LinkDown i) = content.LinkDown (link_of s.address i)
content_of s (LinkUp i) = content.LinkUp (link_of s.address i)

-- source and sender are the node's address
abbrev pub outgoing_of : Setup → Message → ℕ → Outgoing
outgoing_of s m n = record { source = s.address; content = content_of s m; sequence = n; domain = s.domain }

-- the octets of the frame of a message under a sequence number
unfoldable pub octets_of : Setup → Message → ℕ → List ℕ
octets_of s m n = encoded (outgoing_of s m n)

-- how many they are
abbrev pub total_of : Message → ℕ
total_of (Test r c n t) = 58
total_of (TopologyChange i) = 50
total_of (LinkDown i) = 52
total_of (LinkUp i) = 52
