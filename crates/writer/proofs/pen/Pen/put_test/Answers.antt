use Rattle.std.proofs.Common.{[], ◌∷◌, rules}
use Rattle.layout.specs.Layout.{two, four}
use Rattle.frame.specs.Fields.{role_number, state_number}
use Rattle.writer.specs.Pens.{done, left}
use Rattle.writer.proofs.Pens.{Written, more}
use Rattle.writer.proofs.pen.Pen.put_test.Goals as goal

pub returns-clause-puts : goal.returns-clause-puts
returns-clause-puts c =
    let t = c.args.test.now in
    let p = c.args.self.now in
    let w1 : Written (done p) (2 ∷ 18 ∷ []) (left p) c.put.new.self = record { puts = c.put.ensures.1; keeps = c.put.ensures.2 } in
    let w2 = more c.put_number.new.self (two t.priority) w1 c.put_number.ensures in
    let w3 = more c.put-2.new.self t.sender w2 c.put-2.ensures in
    let w4 = more c.put_number-2.new.self (two (role_number t.role)) w3 (search rules) in
    let w5 = more c.put_number-3.new.self (two (state_number t.state)) w4 (search rules) in
    let w6 = more c.put_number-4.new.self (two t.transitions) w5 c.put_number-4.ensures in
    let w7 = more c.put_stamp.new.self (four t.stamp) w6 c.put_stamp.ensures in
    (search rules, w7.puts, w7.keeps)
