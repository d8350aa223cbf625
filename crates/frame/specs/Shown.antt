-- What the reader's values stand for.
use Rattle.std.specs.Prelude.{◌≡◌, ℕ, Ok, Err, Result}
use Rattle.refusal.specs.declared.Refusal.{Refusal}
use Rattle.refusal.specs.Refusals.{number_of}
use Rattle.kind.specs.declared.Kind as kind
use Rattle.kind.specs.declared.Kind.TheVariants as kinds
use Rattle.layout.specs.Fields as fields
use Rattle.layout.specs.Elements.{Element, test, topology_change, link_down, link_up}
use Rattle.layout.specs.Reading.{Reading, refused, accepted}
use Rattle.element.specs.Shown.{part_of}
use Rattle.element.specs.declared.part.Part.{Part}
use Rattle.element.specs.declared.walk.LinkContent.{LinkContent}
use Rattle.frame.specs.Fields.{role_number, state_number, blocked_number}
use Rattle.frame.specs.declared.content.Content.{Content}
use Rattle.frame.specs.declared.content.Content.TheVariants.{Test, TopologyChange, LinkDown, LinkUp}
use Rattle.frame.specs.declared.content.Link.{Link}
use Rattle.frame.specs.declared.Frame.{Frame}

module _ {A : Type 0} where
  -- the first element of a content; what part of the frame its sender is, is told of the place where it stands in a frame
  abbrev pub shown_with : (ℕ → A → fields.Part) → Content A → Element
  shown_with place (Test t) = test t.priority (place 20 t.sender) (role_number t.role) (state_number t.state) t.transitions t.stamp
  shown_with place (TopologyChange t) = topology_change t.priority (place 20 t.sender) t.interval
  shown_with place (LinkDown l) = link_down (place 18 l.sender) (role_number l.role) l.interval (blocked_number l.blocked)
  shown_with place (LinkUp l) = link_up (place 18 l.sender) (role_number l.role) l.interval (blocked_number l.blocked)

  abbrev pub content_sender : Content A → A
  content_sender (Test t) = t.sender
  content_sender (TopologyChange t) = t.sender
  content_sender (LinkDown l) = l.sender
  content_sender (LinkUp l) = l.sender

  abbrev pub content_kind : Content A → kind.Kind
  content_kind (Test t) = kinds.Test
  content_kind (TopologyChange t) = kinds.TopologyChange
  content_kind (LinkDown l) = kinds.LinkDown
  content_kind (LinkUp l) = kinds.LinkUp

-- the first element that a content was read from: its sender is a part of the frame, with its place
abbrev pub content_shown : Content Part → Element
content_shown c = shown_with (λ _ sender. part_of sender) c

-- a link content whose fields are those of the element
pub record SameLink (l : Link Part) (m : LinkContent) : Type 0 where
  pub sender : part_of l.sender ≡ part_of m.sender
  pub role : role_number l.role ≡ m.role
  pub interval : l.interval ≡ m.interval
  pub blocked : blocked_number l.blocked ≡ m.blocked

-- what the reader answers
abbrev pub outcome : Result (Frame Part Part) Refusal → Reading
outcome (Ok f) = accepted (part_of f.source) (content_shown f.content) f.sequence (part_of f.domain)
outcome (Err e) = refused (number_of e)
