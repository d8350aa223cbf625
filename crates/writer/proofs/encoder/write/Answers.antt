use Rattle.std.proofs.Common.{◌≡◌, ◌+◌, true, ◌++◌, length, take, drop, replicate, ap, ◌∙◌, sym, arith, rules}
use Rattle.std.proofs.lemmas.List.{take_at}
use Rattle.layout.specs.Elements.{in_values}
use Rattle.layout.specs.Reading.{reading}
use Rattle.writer.specs.Sent.{body_shown, encoded}
use Rattle.writer.specs.Writing.{total_of}
use Rattle.writer.proofs.ReadBack.{read_back}
use Rattle.writer.proofs.encoder.write.Goals as goal

pub returns-clause-back : goal.returns-clause-back
returns-clause-back c =
    let f = c.args.frame.now in
    let s = c.put_frame.ensures in
    let six : length f.source ≡ 6 = search rules in
    let sixteen : length f.domain ≡ 16 = search rules in
    let v : in_values (body_shown f.content) ≡ true = search rules in
    let r = 14 + c.span-total.result in
    let n : r ≡ total_of f = search rules in
    let front : take r c.put_frame.new.out ≡ encoded f = ap (take r) s.octets ∙ take_at (encoded f) (drop (length (encoded f)) c.args.out.now) r (s.size ∙ sym n) in
    λ k h. ap (λ t. reading (t ++ replicate k 0)) front ∙ read_back f.source f.content f.sequence f.domain k six s.fits.0 s.fits.1 sixteen v (omega (arith, n, h))
