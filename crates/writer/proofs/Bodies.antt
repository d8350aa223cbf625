-- What a content tells of the first element that it makes.
use Rattle.std.proofs.Common.{◌≡◌, ℕ, Some, ◌+◌, List, length, refl, length-append, arith}
use Rattle.kind.specs.Kinds.{span_of}
use Rattle.layout.specs.Elements.{kind_of, size_of}
use Rattle.layout.specs.Layout.{octets_of, encode}
use Rattle.frame.specs.Shown.{content_kind}
use Rattle.frame.specs.declared.content.Content.{Content}
use Rattle.frame.specs.declared.content.Content.TheVariants.{Test, TopologyChange, LinkDown, LinkUp}
use Rattle.writer.specs.Sent.{placed, body_shown, FitsBody}

pub kind_shown : (c : Content (List ℕ)) → kind_of (body_shown c) ≡ Some (content_kind c)
kind_shown (Test t) = refl
kind_shown (TopologyChange t) = refl
kind_shown (LinkDown l) = refl
kind_shown (LinkUp l) = refl

pub span_size : (c : Content (List ℕ)) → 14 + span_of (content_kind c) ≡ 16 + size_of (body_shown c) + 22
span_size (Test t) = refl
span_size (TopologyChange t) = refl
span_size (LinkDown l) = refl
span_size (LinkUp l) = refl

pub body_size : (c : Content (List ℕ)) → FitsBody c → length (octets_of (body_shown c)) ≡ size_of (body_shown c)
body_size (Test t) f = grind (arith, length-append)
body_size (TopologyChange t) f = grind (arith, length-append)
body_size (LinkDown l) f = grind (arith, length-append)
body_size (LinkUp l) f = grind (arith, length-append)

-- a frame has as many octets as its kind tells
pub frame_size : (s : List ℕ) (c : Content (List ℕ)) (n i : ℕ) (d : List ℕ) → length s ≡ 6 → FitsBody c → length d ≡ 16 → length (encode (placed 6 s) (body_shown c) n (placed i d)) ≡ 14 + span_of (content_kind c)
frame_size s (Test t) n i d ls f ld = grind (arith, length-append)
frame_size s (TopologyChange t) n i d ls f ld = grind (arith, length-append)
frame_size s (LinkDown l) n i d ls f ld = grind (arith, length-append)
frame_size s (LinkUp l) n i d ls f ld = grind (arith, length-append)
