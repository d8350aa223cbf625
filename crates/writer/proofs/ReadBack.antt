-- What is encoded from the fields of an outgoing frame is read back as those fields.
use Rattle.std.proofs.Common.{◌≡◌, ℕ, ◌+◌, ◌<◌, ◌≤◌, true, ◌&&◌, leb, List, ◌++◌, length, replicate, arith}
use Rattle.std.proofs.lemmas.Bool.{and_parts, leb-true}
use Rattle.kind.specs.Kinds.{span_of}
use Rattle.layout.specs.Elements.{is_priority, in_values, size_of}
use Rattle.layout.specs.Reading.{reading, accepted}
use Rattle.layout.specs.Layout.{encode}
use Rattle.layout.proofs.Back.{test_back, change_back, link_back}
use Rattle.frame.specs.declared.content.Content.{Content}
use Rattle.frame.specs.declared.content.Content.TheVariants.{Test, TopologyChange, LinkDown, LinkUp}
use Rattle.frame.specs.Fields.{role_number, state_number, blocked_number}
use Rattle.frame.specs.Shown.{content_kind}
use Rattle.writer.specs.Sent.{placed, body_shown, FitsBody}

small : (n : ℕ) → leb n 1 ≡ true → n < 65536
small n h = let l = leb-true n 1 h in omega arith

pub read_back : (s : List ℕ) (c : Content (List ℕ)) (n : ℕ) (d : List ℕ) (k : ℕ) → length s ≡ 6 → FitsBody c → n < 65536 → length d ≡ 16 → in_values (body_shown c) ≡ true → 14 + span_of (content_kind c) + k ≤ 60 →
    reading (encode (placed 6 s) (body_shown c) n (placed (20 + size_of (body_shown c)) d) ++ replicate k 0) ≡ accepted (placed 6 s) (body_shown c) n (placed (20 + size_of (body_shown c)) d)
read_back s (Test t) n d k ls f hn ld v h =
    let r = role_number t.role in
    let o = state_number t.state in
    let q = and_parts (is_priority t.priority) (leb r 1 && leb o 1) v in
    let w = and_parts (leb r 1) (leb o 1) q.1 in
    test_back s t.sender d t.priority r o t.transitions t.stamp n k ls f.0 ld f.1 (small r w.0) (small o w.1) f.2 f.3 q.0 w.0 w.1 hn h
read_back s (TopologyChange t) n d k ls f hn ld v h = change_back s t.sender d t.priority t.interval n k ls f.0 ld f.1 f.2 v hn h
read_back s (LinkDown l) n d k ls f hn ld v h =
    let r = role_number l.role in
    let b = blocked_number l.blocked in
    let w = and_parts (leb r 1) (leb b 1) v in
    (link_back s l.sender d r l.interval b n k ls f.0 ld (small r w.0) f.1 (small b w.1) w.0 w.1 hn h).0
read_back s (LinkUp l) n d k ls f hn ld v h =
    let r = role_number l.role in
    let b = blocked_number l.blocked in
    let w = and_parts (leb r 1) (leb b 1) v in
    (link_back s l.sender d r l.interval b n k ls f.0 ld (small r w.0) f.1 (small b w.1) w.0 w.1 hn h).1
