-- A node is a client or a manager, and acts as that.
use Rattle.std.specs.Prelude.{ℕ, List, None, Option, Result}
use Rattle.refusal.specs.declared.Refusal.{Refusal}
use Rattle.switch.specs.declared.port.Port.{Port}
use Rattle.settings.specs.Setups.{Setup}
use Rattle.event.specs.Events.{Event, timer_of, run_out}
use Rattle.event.specs.declared.Timer.{Timer}
use Rattle.outbox.specs.Rows.{Row}
use Rattle.client.specs.Machines as client-machine
use Rattle.client.specs.Rows as client-rows
use Rattle.manager.specs.Machines as manager-machine
use Rattle.manager.specs.Rows as manager-rows
use Rattle.node.specs.declared.Role.{Role}
use Rattle.node.specs.declared.Role.TheVariants as role
use Rattle.node.specs.declared.Node.{Node}
use Rattle.node.specs.declared.Node.TheVariants.{Client, Manager}

abbrev pub setup_of : Node → Setup
setup_of (Client m) = m.setup
setup_of (Manager m) = m.setup

abbrev pub started : Role → Setup → Node
started role.Client s = Client (client-machine.started s)
started role.Manager s = Manager (manager-machine.started s)

-- the row of a client or of a manager as the row of a node
abbrev pub as_node : {M : Type 0} → (M → Node) → Row M → Row Node
as_node n r = record { machine = n r.machine; switch = r.switch; sent = r.sent }

abbrev pub with : {M : Type 0} → M → Row Node → Row M
with m r = record { machine = m; switch = r.switch; sent = r.sent }

-- a client does without the time stamp
abbrev pub acts_on : ℕ → Event → Node → Row Node → Row Node
acts_on stamp e (Client m) r = as_node Client (client-rows.acts e (with m r))
acts_on stamp e (Manager m) r = as_node Manager (manager-rows.acts stamp e (with m r))

abbrev pub acts : ℕ → Event → Row Node → Row Node
acts stamp e r = acts_on stamp e r.machine r

-- the row of a timer that runs out
abbrev pub fires_on : ℕ → Timer → Node → Row Node → Row Node
fires_on stamp t (Client m) r = as_node Client (client-rows.fires t (with m r))
fires_on stamp t (Manager m) r = as_node Manager (manager-rows.fires stamp t (with m r))

abbrev pub fires : ℕ → Timer → Row Node → Row Node
fires stamp t r = fires_on stamp t r.machine r

-- a manager passes nothing on
abbrev pub passed_by : Port → List ℕ → Node → Option Port
passed_by p xs (Client m) = client-rows.passed_by p xs
passed_by p xs (Manager m) = None

abbrev pub timer_in : Node → Timer → Option ℕ
timer_in (Client m) = client-machine.timer_in m
timer_in (Manager m) = manager-machine.timer_in m

abbrev pub expire_answer : ℕ → Node → Result (Unit {0}) Refusal
expire_answer n k = run_out (timer_in k) (timer_of n)
