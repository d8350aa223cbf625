use Rattle.std.proofs.Common.{◌≡◌, ◌<◌, length, get_or, rules}
use Rattle.clash.proofs.Trails.{begins}
use Rattle.clash.proofs.history.History.first_for.Goals as goal

pub returns-clause-trail : goal.returns-clause-trail
returns-clause-trail c =
    let ns = c.self.inside.noted.items in
    let q = c.in-Some.noted.now in
    let l : c.args.j < length ns = search rules in
    let e : q ≡ get_or ns c.args.j q = search rules in
    (begins ns c.args.self.now c.args.j q c.self.view_is c.self.invariant l e).trail

pub returns-clause-all : goal.returns-clause-all
returns-clause-all c =
    let ns = c.self.inside.noted.items in
    let q = c.in-Some.noted.now in
    let l : c.args.j < length ns = search rules in
    let e : q ≡ get_or ns c.args.j q = search rules in
    (begins ns c.args.self.now c.args.j q c.self.view_is c.self.invariant l e).all
