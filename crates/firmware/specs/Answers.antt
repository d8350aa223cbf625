-- What the calls from C answer, as numbers.
use Rattle.std.specs.Prelude.{◌≡◌, ℕ, ◌+◌, ◌^◌, Bool, cond, ◌&&◌, List, ◌++◌, length, drop, Some, None, Option, Ok, Err, Result, ◌==◌, nat_le}
use Rattle.refusal.specs.declared.Refusal.{Refusal}
use Rattle.refusal.specs.Refusals.{number_of}
use Rattle.kind.specs.declared.Kind.{Kind}
use Rattle.kind.specs.Kinds.{type_of}
use Rattle.layout.specs.Fields.{Part}
use Rattle.layout.specs.Elements.{Element, test, topology_change, link_down, link_up, common, end, none, kind_of, span_at, size_of, in_values}
use Rattle.layout.specs.Reading.{Reading, refused, accepted}
use Rattle.layout.specs.Layout.{encode}
use Rattle.frame.specs.Checked.{Checked, unfit, fit, kind_reading}
use Rattle.frame.specs.Fields.{role_number, blocked_number}
use Rattle.frame.specs.declared.content.Content.{Content}
use Rattle.frame.specs.declared.content.Link.{Link}
use Rattle.writer.specs.Sent.{placed, body_shown}

-- a kind is 256 and the type of the first element
abbrev pub kind_number : Option Kind → ℕ
kind_number (Some k) = 256 + type_of k
kind_number None = 0

-- the number of the kind, or of the refusal
abbrev pub checked_number : Checked → ℕ
checked_number (unfit n) = n
checked_number (fit k) = kind_number k

abbrev pub read_number : Reading → ℕ
read_number r = checked_number (kind_reading r)

-- what stands for no value
abbrev pub no_value : ℕ
no_value = 2 ^ 32

-- the fields of LinkDown and LinkUp: 2 port role, 6 interval, 7 blocked, 9 place of the sender
abbrev pub link_field : ℕ → ℕ → ℕ → ℕ → ℕ → ℕ
link_field at role interval blocked k = cond (k == 2) role (cond (k == 6) interval (cond (k == 7) blocked (cond (k == 9) at no_value)))

-- the fields of a first element: 1 priority, 2 port role, 3 ring state, 4 transitions, 5 time stamp, 6 interval, 7 blocked, 9 place of the sender
abbrev pub element_field : Element → ℕ → ℕ
element_field (test p s r t n c) k = cond (k == 1) p (cond (k == 2) r (cond (k == 3) t (cond (k == 4) n (cond (k == 5) c (cond (k == 9) s.at no_value)))))
element_field (topology_change p s i) k = cond (k == 1) p (cond (k == 6) i (cond (k == 9) s.at no_value))
element_field (link_down s r i b) k = link_field s.at r i b k
element_field (link_up s r i b) k = link_field s.at r i b k
element_field (common n d) k = no_value
element_field end k = no_value
element_field none k = no_value

-- all fields: 0 sequence, 8 place of the source, 10 place of the domain, and those of the first element
abbrev pub accepted_field : Part → Element → ℕ → Part → ℕ → ℕ
accepted_field s e n d k = cond (k == 0) n (cond (k == 8) s.at (cond (k == 10) d.at (element_field e k)))

abbrev pub field_number : Reading → ℕ → ℕ
field_number (refused n) k = no_value + n
field_number (accepted s e n d) k = accepted_field s e n d k

-- six octets, sixteen octets
abbrev pub is_address : List ℕ → Bool
is_address xs = length xs == 6

abbrev pub is_domain : List ℕ → Bool
is_domain xs = length xs == 16

-- what a call that writes answers, and what the lent octets hold then
pub record Sent : Type 0 where
  pub answer : ℕ
  pub octets : List ℕ

-- a frame whose sender has its length: the total, where source and domain have theirs, all fields have their values and there is room
abbrev pub sending_body : Element → List ℕ → ℕ → List ℕ → List ℕ → Sent
sending_body e source n domain out =
    cond (is_address source && (is_domain domain && in_values e))
    (cond (nat_le (14 + span_at (kind_of e)) (length out))
    (record { answer = 14 + span_at (kind_of e); octets = encode (placed 6 source) e n (placed (20 + size_of e) domain) ++ drop (14 + span_at (kind_of e)) out })
    (record { answer = 12; octets = out }))
    (record { answer = 8; octets = out })

-- any frame
abbrev pub sending : Element → List ℕ → List ℕ → ℕ → List ℕ → List ℕ → Sent
sending e sender source n domain out = cond (is_address sender) (sending_body e source n domain out) (record { answer = 8; octets = out })

-- what was written, as it is answered to C
abbrev pub sent : Result ℕ Refusal → List ℕ → Sent
sent (Ok n) out = record { answer = n; octets = out }
sent (Err e) out = record { answer = number_of e; octets = out }

-- a frame of this content, or the refusal of the content
abbrev pub sending_content : Result (Content (List ℕ)) Refusal → List ℕ → ℕ → List ℕ → List ℕ → Sent
sending_content (Ok c) source n domain out = sending_body (body_shown c) source n domain out
sending_content (Err e) source n domain out = record { answer = number_of e; octets = out }

-- the content of a link with these fields
pub record LinkIs (l : Link (List ℕ)) (sender : List ℕ) (role interval blocked : ℕ) : Type 0 where
  pub has_sender : l.sender ≡ sender
  pub has_role : role_number l.role ≡ role
  pub has_interval : l.interval ≡ interval
  pub has_blocked : blocked_number l.blocked ≡ blocked
