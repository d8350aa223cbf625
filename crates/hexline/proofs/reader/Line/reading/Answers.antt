-- Where nothing is open, what is kept is what the line holds.
use Rattle.std.proofs.Common.{◌<◌, ◌≤◌, length, rules}
use native.Mathlib.Nat.{sub-zero}
use Rattle.hexline.specs.Meaning.{front}
use Rattle.hexline.proofs.Steps.{all_kept, nothing_open}
use Rattle.hexline.proofs.reader.Line.reading.Goals as goal

pub returns-in_default : goal.returns-in_default
returns-in_default c =
    let line = c.args.self.now in
    let some : 0 < length (front line) = search rules in
    let few : length (front line) ≤ 61 = search rules in
    rw (nothing_open line.place c.in-Between.is, sub-zero) (all_kept (front line) some few)
