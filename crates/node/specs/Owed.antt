-- What every machine owes holds of a node: it runs out as its rows say.
use Rattle.std.specs.Prelude.{◌≡◌, ℕ, Bool, true, false, cond, List, Ok, Err, Option, Result, refl}
use Rattle.refusal.specs.declared.Refusal.{Refusal}
use Rattle.switch.specs.Meanings.{Meaning}
use Rattle.event.specs.Events.{Event, expires, timer_of, is_on, run_out}
use Rattle.event.specs.declared.Timer.{Timer}
use Rattle.outbox.specs.Boxes.{Sent}
use Rattle.outbox.specs.Rows.{Row}
use Rattle.machine.specs.Steps as steps
use Rattle.client.specs.Machines as client-machine
use Rattle.client.specs.Rows as client-rows
use Rattle.manager.specs.Machines as manager-machine
use Rattle.manager.specs.Rows as manager-rows
use Rattle.node.specs.declared.Node.{Node}
use Rattle.node.specs.declared.Node.TheVariants.{Client, Manager}
use Rattle.node.specs.Nodes.{as_node, acts, fires, timer_in}

-- a run-out that is refused does nothing; else the row of its timer acts
either : {M : Type 0} (n : M → Node) (b : Bool) (x y : Row M) → as_node n (cond b x y) ≡ cond b (as_node n x) (as_node n y)
either n true x y = refl
either n false x y = refl

module _ (stamp : ℕ) (w : Meaning) (fs : List Sent) where
  abbrev row : {M : Type 0} → M → Row M
  row m = record { machine = m; switch = w; sent = fs }

  abbrev RunsOut : Node → Result Timer Refusal → Row Node → Type 0
  RunsOut k t r = r ≡ steps.expires (fires stamp) (timer_in k) t (row k)

  client_out : (m : client-machine.Machine) (t : Result Timer Refusal) → RunsOut (Client m) t (as_node Client (client-rows.expires t (row m)))
  client_out m (Err e) = refl
  client_out m (Ok t) = either Client (is_on (client-machine.timer_in m t)) (client-rows.fires t (row m)) (row m)

  manager_out : (m : manager-machine.Machine) (t : Result Timer Refusal) → RunsOut (Manager m) t (as_node Manager (manager-rows.expires stamp t (row m)))
  manager_out m (Err e) = refl
  manager_out m (Ok t) = either Manager (is_on (manager-machine.timer_in m t)) (manager-rows.fires stamp t (row m)) (row m)

  node_out : (n : ℕ) (k : Node) → RunsOut k (timer_of n) (acts stamp (expires n) (row k))
  node_out n (Client m) = client_out m (timer_of n)
  node_out n (Manager m) = manager_out m (timer_of n)

pub runs_out : (stamp n : ℕ) (r : Row Node) → acts stamp (expires n) r ≡ steps.expires (fires stamp) (timer_in r.machine) (timer_of n) r
runs_out stamp n r = node_out stamp r.switch r.sent n r.machine
