use Rattle.std.proofs.Common.{◌≡◌, ℕ, ◌+◌, Bool, true, false, cond, List, length, Ok, Err, Result, nat_le, ap}
use Rattle.refusal.specs.declared.Refusal.{Refusal}
use Rattle.kind.specs.Kinds.{span_of}
use Rattle.layout.specs.Elements.{in_values, span_at}
use Rattle.frame.specs.Shown.{content_kind}
use Rattle.writer.specs.Sent.{body_shown}
use Rattle.writer.specs.Writing.{wrote, refused, answered}
use Rattle.writer.proofs.Bodies.{kind_shown}
use Rattle.firmware.specs.Answers.{Sent, sent}
use Rattle.firmware.proofs.sending.write_content.Goals as goal

-- what the writer answers, as it is answered to C
as_sent : (v b : Bool) (t : ℕ) (xs out new : List ℕ) (r : Result ℕ Refusal) →
    answered r ≡ cond v (cond b (wrote t) (refused 12)) (refused 8) → new ≡ cond v (cond b xs out) out →
    sent r new ≡ cond {A = Sent} v (cond {A = Sent} b (record { answer = t; octets = xs }) (record { answer = 12; octets = out })) (record { answer = 8; octets = out })
as_sent true true t xs out new (Ok n) h e = cc
as_sent true true t xs out new (Err n) h e = cc
as_sent true false t xs out new (Ok n) h e = cc
as_sent true false t xs out new (Err n) h e = cc
as_sent false b t xs out new (Ok n) h e = cc
as_sent false b t xs out new (Err n) h e = cc

pub returns-clause-sent : goal.returns-clause-sent
returns-clause-sent c =
    let b = c.in_ok-content.field-0 in
    rw (c.in_ok-content.was, c.in_ok-fixed.ensures.0, c.in_ok-fixed-2.ensures.0, ← c.in_ok-fixed.ensures.1, ← c.in_ok-fixed-2.ensures.1, ap span_at (kind_shown b))
    (as_sent (in_values (body_shown b)) (nat_le (14 + span_of (content_kind b)) (length c.args.out.now)) _ _ c.args.out.now c.write.new.out c.write.result c.write.ensures.answers c.write.ensures.octets)
