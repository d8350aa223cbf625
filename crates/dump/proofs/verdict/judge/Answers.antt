use Rattle.std.proofs.Common.{ap, ◌∙◌}
use Rattle.dump.specs.Lines.{read}
use Rattle.dump.proofs.Kept.{verdict_of}
use Rattle.dump.proofs.verdict.judge.Goals as goal

pub returns-in-Blank : goal.returns-in-Blank
returns-in-Blank c = λ characters e. verdict_of characters (c.in-Blank.ensures ∙ e)

pub returns-in-NotHex : goal.returns-in-NotHex
returns-in-NotHex c = λ characters e. verdict_of characters (c.in-NotHex.ensures ∙ e)

pub returns-in-Octets : goal.returns-in-Octets
returns-in-Octets c = λ characters e. ap read c.read.ensures.value ∙ verdict_of characters (c.in-Octets.ensures ∙ e)
