-- The manager's rows M1 to M10, each its actions in their order. The state goes over before a Test is sent, since a Test
-- tells the ring state of after the row; the transitions grow after it.
use Rattle.std.specs.Prelude.{ℕ, ◌+◌, ◌-◌, ◌*◌, Bool, true, false, cond, List, [], ◌∷◌, ◌++◌, Some, None, Option, Result, nat_lt}
use Rattle.refusal.specs.declared.Refusal.{Refusal}
use Rattle.frame.specs.declared.field.PortRole.{PortRole}
use Rattle.frame.specs.declared.field.PortRole.TheVariants.{Primary, Secondary}
use Rattle.frame.specs.declared.field.RingState.{RingState}
use Rattle.frame.specs.declared.field.RingState.TheVariants.{Open, Closed}
use Rattle.switch.specs.Ports.{other, same_port}
use Rattle.switch.specs.declared.port.Port.{Port}
use Rattle.switch.specs.declared.port.Port.TheVariants.{One, Two}
use Rattle.switch.specs.declared.port.PortState.{PortState}
use Rattle.switch.specs.declared.port.PortState.TheVariants.{Blocked, Forwarding}
use Rattle.outbox.specs.declared.message.Message.{Message}
use Rattle.outbox.specs.declared.message.Message.TheVariants.{Test, TopologyChange}
use Rattle.outbox.specs.Boxes.{Sent}
use Rattle.settings.specs.Setups.{Setup}
use Rattle.outbox.specs.Rows as rows
use Rattle.outbox.specs.Rows.{◌▷◌, its, sets, clears}
use Rattle.event.specs.Events.{Event, timer_of, run_out}
use Rattle.event.specs.Events as event
use Rattle.event.specs.declared.Timer.{Timer}
use Rattle.event.specs.declared.Timer.TheVariants as timer
use Rattle.hearing.specs.Heards.{heard}
use Rattle.hearing.specs.declared.Heard.{Heard}
use Rattle.hearing.specs.declared.Heard.TheVariants as said
use Rattle.machine.specs.Steps as steps
use Rattle.manager.specs.declared.state.State.{State}
use Rattle.manager.specs.declared.state.State.TheVariants.{AcStat1, PrmUp, ChkRc, ChkRo}
use Rattle.manager.specs.Machines.{Machine, in_state, with_primary, with_misses, with_pending, with_test, with_topology, with_repeats, one_more_transition, numbered, timer_in}

abbrev pub setup_of : Machine → Setup
setup_of m = m.setup

-- a manager in the middle of a row
abbrev pub Row : Type 0
Row = rows.Row Machine

-- actions: the primary port P and the other one, S, by their names at this point of the row
abbrev pub sets_p : PortState → Row → Row
sets_p x r = r ▷ sets r.machine.primary x

abbrev pub sets_s : PortState → Row → Row
sets_s x r = r ▷ sets (other r.machine.primary) x

abbrev pub goes : State → Row → Row
goes s = its (in_state s)

-- this port is P from here on
abbrev pub names : Port → Row → Row
names p = its (with_primary p)

-- P and S change names
abbrev pub swaps : Row → Row
swaps r = r ▷ names (other r.machine.primary)

abbrev pub misses : ℕ → Row → Row
misses n = its (with_misses n)

abbrev pub starts_test : ℕ → Row → Row
starts_test t = its (with_test (Some t))

-- the test timer stops or runs out: a short test is pending no longer
abbrev pub stops_test : Row → Row
stops_test r = r ▷ its (with_test None) ▷ its (with_pending false)

abbrev pub starts_topology : Row → Row
starts_topology r = r ▷ its (with_topology (Some r.machine.setup.topology))

abbrev pub stops_topology : Row → Row
stops_topology = its (with_topology None)

abbrev pub repeats : ℕ → Row → Row
repeats n = its (with_repeats n)

abbrev pub counts : Row → Row
counts = its one_more_transition

-- the two frames of one sending: at port 1 before port 2, under one sequence number
abbrev pub pair : Message → Message → ℕ → List Sent
pair a b n = record { port = One; message = a; sequence = n } ∷ record { port = Two; message = b; sequence = n } ∷ []

abbrev pub sends : Message → Message → Row → Row
sends a b r = record { machine = numbered r.machine; switch = r.switch; sent = r.sent ++ pair a b r.machine.sequence }

-- the ring is closed exactly in CHK_RC
abbrev pub ring_in : State → RingState
ring_in AcStat1 = Open
ring_in PrmUp = Open
ring_in ChkRc = Closed
ring_in ChkRo = Open

abbrev pub role_of : Port → Machine → PortRole
role_of p m = cond (same_port p m.primary) Primary Secondary

abbrev pub test_at : Port → ℕ → Machine → Message
test_at p stamp m = Test (role_of p m) (ring_in m.state) m.transitions stamp

-- a Test at both ports, and the test timer started
abbrev pub tests_in : ℕ → ℕ → Row → Row
tests_in t stamp r = r ▷ sends (test_at One stamp r.machine) (test_at Two stamp r.machine) ▷ starts_test t

abbrev pub tests : ℕ → Row → Row
tests stamp r = r ▷ tests_in r.machine.setup.default_test stamp

abbrev pub tests_soon : ℕ → Row → Row
tests_soon stamp r = r ▷ tests_in r.machine.setup.short_test stamp

-- a TopologyChange in n intervals, at both ports
abbrev pub change_in : ℕ → Machine → Message
change_in n m = TopologyChange (n * m.setup.topology)

abbrev pub tells : ℕ → Row → Row
tells n r = r ▷ sends (change_in n r.machine) (change_in n r.machine)

abbrev pub announces : Row → Row
announces r = r ▷ tells r.machine.setup.topology_count ▷ starts_topology

module _ (stamp : ℕ) where
  -- a port comes up; the Bool tells whether it is P
  abbrev pub up : State → Bool → Port → Row → Row
  -- M1
  up AcStat1 is_p p r = r ▷ names p ▷ sets_p Forwarding ▷ goes PrmUp ▷ tests stamp
  -- M3
  up PrmUp false p r = r ▷ misses 0 ▷ goes ChkRc ▷ tests stamp
  up PrmUp true p r = r
  up ChkRc is_p p r = r
  up ChkRo is_p p r = r

  -- one of two ports goes down
  abbrev pub parts : Bool → Row → Row
  -- M4
  parts false r = r ▷ sets_s Blocked ▷ goes PrmUp
  -- M5
  parts true r = r ▷ swaps ▷ sets_s Blocked ▷ sets_p Forwarding ▷ goes PrmUp ▷ announces ▷ tests stamp

  -- a port goes down
  abbrev pub down : State → Bool → Row → Row
  down AcStat1 is_p r = r
  -- M2
  down PrmUp true r = r ▷ sets_p Blocked ▷ stops_test ▷ goes AcStat1
  down PrmUp false r = r
  down ChkRc is_p r = parts is_p r
  down ChkRo is_p r = parts is_p r

  -- M7: a test was missed; the Bool tells whether one more may be
  abbrev pub missed : Bool → Row → Row
  missed true r = r ▷ misses (r.machine.misses + 1) ▷ tests stamp
  missed false r = r ▷ sets_s Forwarding ▷ goes ChkRo ▷ announces ▷ tests stamp ▷ counts

  -- the test timer has run out, and is stopped
  abbrev pub test_out : State → Row → Row
  test_out AcStat1 r = r
  -- M6
  test_out PrmUp r = r ▷ tests stamp
  test_out ChkRo r = r ▷ tests stamp
  test_out ChkRc r = missed (nat_lt r.machine.misses (r.machine.setup.test_count - 1)) r

  -- M8: an own Test comes home; where only one link is up it is late
  abbrev pub home : State → Row → Row
  home AcStat1 r = r
  home PrmUp r = r
  home ChkRc r = r ▷ misses 0
  home ChkRo r = r ▷ sets_s Blocked ▷ misses 0 ▷ goes ChkRc ▷ announces ▷ tests stamp ▷ counts

  -- M9: a client tells of a link; the Bool tells whether a short test is pending
  abbrev pub hurries : Bool → Row → Row
  hurries true r = r
  hurries false r = r ▷ its (with_pending true) ▷ tests_soon stamp

  abbrev pub told : State → Row → Row
  told AcStat1 r = r
  told PrmUp r = r
  told ChkRc r = hurries r.machine.pending r
  told ChkRo r = hurries r.machine.pending r

  abbrev pub hears : Option Heard → Row → Row
  hears (Some said.OwnTest) r = home r.machine.state r
  hears (Some said.LinkFrame) r = told r.machine.state r
  hears (Some (said.TopologyChange t)) r = r
  hears None r = r

  abbrev pub turns : Bool → Port → Row → Row
  turns true p r = up r.machine.state (same_port p r.machine.primary) p r
  turns false p r = down r.machine.state (same_port p r.machine.primary) r

  -- M10: the topology timer has run out, and is stopped; the Bool tells whether repeats are left
  abbrev pub topology_out : Bool → Row → Row
  topology_out true r = r ▷ tells r.machine.repeats ▷ repeats (r.machine.repeats - 1) ▷ starts_topology
  topology_out false r = r ▷ tells 0 ▷ clears ▷ repeats (r.machine.setup.topology_count - 1)

  -- a timer that runs has run out: it is stopped, then its row acts
  abbrev pub fires : Timer → Row → Row
  fires timer.Test r = r ▷ stops_test ▷ test_out r.machine.state
  fires timer.Topology r = r ▷ stops_topology ▷ topology_out (nat_lt 0 r.machine.repeats)
  fires timer.LinkUp r = r
  fires timer.LinkDown r = r
  fires timer.Clear r = r

  abbrev pub expires : Result Timer Refusal → Row → Row
  expires t r = steps.expires fires (timer_in r.machine) t r

  abbrev pub acts : Event → Row → Row
  acts (event.turns p b) r = turns b p r
  acts (event.hears p xs) r = hears (heard r.machine.setup xs) r
  acts (event.expires n) r = expires (timer_of n) r

-- what a run-out of a timer answers
abbrev pub expire_answer : ℕ → Machine → Result (Unit {0}) Refusal
expire_answer n m = run_out (timer_in m) (timer_of n)
