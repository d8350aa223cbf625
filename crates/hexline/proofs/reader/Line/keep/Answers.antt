-- Where 61 are kept, the octet is not.
use Rattle.std.proofs.Common.{◌≡◌, length, rules}
use Rattle.hexline.specs.Meaning.{front}
use Rattle.hexline.proofs.Steps.{full}
use Rattle.hexline.proofs.reader.Line.keep.Goals as goal

pub returns-else-self-lt-KEPT-clause-octets : goal.returns-else-self-lt-KEPT-clause-octets
returns-else-self-lt-KEPT-clause-octets c more =
    let line = c.args.self.now in
    let h : length (front line) ≡ 61 = search rules in
    full (front line) more _ h
