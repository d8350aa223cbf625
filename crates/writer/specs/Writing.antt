-- What writing a frame answers, and what the lent octets hold then.
use Rattle.std.specs.Prelude.{◌≡◌, ℕ, ◌+◌, ◌≤◌, cond, List, ◌++◌, length, take, drop, replicate, Ok, Err, Result, nat_le}
use Rattle.refusal.specs.declared.Refusal.{Refusal}
use Rattle.refusal.specs.Refusals.{number_of}
use Rattle.kind.specs.Kinds.{span_of}
use Rattle.layout.specs.Elements.{in_values, size_of}
use Rattle.layout.specs.Reading.{reading, accepted}
use Rattle.frame.specs.Shown.{content_kind}
use Rattle.writer.specs.Sent.{Outgoing, placed, body_shown, encoded}

pub data Answer : Type 0 where
  wrote : ℕ → Answer
  refused : ℕ → Answer

-- the head has 14 octets before the version
abbrev pub total_of : Outgoing → ℕ
total_of f = 14 + span_of (content_kind f.content)

-- a field outside its values is refused as 8, and then too few octets as 12
abbrev pub writing : Outgoing → List ℕ → Answer
writing f out = cond (in_values (body_shown f.content)) (cond (nat_le (total_of f) (length out)) (wrote (total_of f)) (refused 12)) (refused 8)

-- the frame stands at the front and all else stays; after a refusal all stays
abbrev pub after : Outgoing → List ℕ → List ℕ
after f out = cond (in_values (body_shown f.content)) (cond (nat_le (total_of f) (length out)) (encoded f ++ drop (total_of f) out) out) out

-- what the writer answers
abbrev pub answered : Result ℕ Refusal → Answer
answered (Ok n) = wrote n
answered (Err e) = refused (number_of e)

-- what was written is read back as the fields that were given, with any number of zero octets after it, up to 60 octets in all
abbrev pub ReadsBack : Outgoing → Answer → List ℕ → Type 0
ReadsBack f (refused n) out = Unit {0}
ReadsBack f (wrote n) out = (k : ℕ) → n + k ≤ 60 → reading (take n out ++ replicate k 0) ≡ accepted (placed 6 f.source) (body_shown f.content) f.sequence (placed (20 + size_of (body_shown f.content)) f.domain)
