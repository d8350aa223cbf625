use Rattle.std.proofs.Common.{◌≡◌, true, is_some, ◌∙◌, arith, rules}
use Rattle.kind.specs.Kinds.{destination_of}
use Rattle.element.specs.Shown.{head_shown}
use Rattle.frame.proofs.Law.{past_head, laid_out}
use Rattle.frame.proofs.read.Goals as goal

pub returns : goal.returns
returns c =
    let head = c.in-Some.ensures in
    let to : is_some (destination_of c.in-Some.head.destination.octets.now) ≡ true = search rules in
    let v = c.read_elements.ensures ∙ past_head c.args.octets.now (head_shown c.in-Some.head) head.0 head.1 to c.in-35043.is c.in-1.is in
    record { value = v; laid_out = laid_out c.args.octets.now _ (λ i. let f = c.type_inv.octets i in omega arith) v }
