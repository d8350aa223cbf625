-- The client's rows C1 to C30, each its actions in their order. C1, the start, stands with the machine.
use Rattle.std.specs.Prelude.{ℕ, ◌-◌, ◌*◌, Bool, true, false, cond, List, [], ◌∷◌, ◌++◌, Some, None, Option, Result, nat_lt}
use Rattle.refusal.specs.declared.Refusal.{Refusal}
use Rattle.switch.specs.Ports.{other, same_port}
use Rattle.switch.specs.declared.port.Port.{Port}
use Rattle.switch.specs.declared.port.PortState.{PortState}
use Rattle.switch.specs.declared.port.PortState.TheVariants.{Blocked, Forwarding}
use Rattle.outbox.specs.declared.message.Message.{Message}
use Rattle.outbox.specs.declared.message.Message.TheVariants.{LinkUp, LinkDown}
use Rattle.outbox.specs.Boxes.{Sent}
use Rattle.settings.specs.Setups.{Setup}
use Rattle.outbox.specs.Rows as rows
use Rattle.outbox.specs.Rows.{◌▷◌, its, sets, clears}
use Rattle.event.specs.Events.{Event, timer_of, run_out}
use Rattle.event.specs.Events as event
use Rattle.event.specs.declared.Timer.{Timer}
use Rattle.event.specs.declared.Timer.TheVariants as timer
use Rattle.hearing.specs.Heards.{heard, is_mrp}
use Rattle.hearing.specs.declared.Heard.{Heard}
use Rattle.hearing.specs.declared.Heard.TheVariants as said
use Rattle.machine.specs.Steps as steps
use Rattle.client.specs.declared.state.State.{State}
use Rattle.client.specs.declared.state.State.TheVariants.{AcStat1, DeIdle, De, Pt, PtIdle}
use Rattle.client.specs.Machines.{Machine, in_state, with_primary, with_up, with_down, with_clear, with_left, numbered, timer_in}

abbrev pub setup_of : Machine → Setup
setup_of m = m.setup

-- a client in the middle of a row
abbrev pub Row : Type 0
Row = rows.Row Machine

-- actions: the primary port P and the other one, S, by their names at this point of the row
abbrev pub sets_p : PortState → Row → Row
sets_p x r = r ▷ sets r.machine.primary x

abbrev pub sets_s : PortState → Row → Row
sets_s x r = r ▷ sets (other r.machine.primary) x

abbrev pub goes : State → Row → Row
goes s = its (in_state s)

-- this port is P from here on
abbrev pub names : Port → Row → Row
names p = its (with_primary p)

-- P and S change names
abbrev pub swaps : Row → Row
swaps r = r ▷ names (other r.machine.primary)

-- all link frames of an announcement are left to send
abbrev pub refills : Row → Row
refills r = r ▷ its (with_left r.machine.setup.link_count)

abbrev pub lessens : Row → Row
lessens r = r ▷ its (with_left (r.machine.left - 1))

abbrev pub starts_up : Row → Row
starts_up r = r ▷ its (with_up (Some r.machine.setup.link_up))

abbrev pub stops_up : Row → Row
stops_up = its (with_up None)

abbrev pub starts_down : Row → Row
starts_down r = r ▷ its (with_down (Some r.machine.setup.link_down))

abbrev pub stops_down : Row → Row
stops_down = its (with_down None)

abbrev pub starts_clear : ℕ → Row → Row
starts_clear t = its (with_clear (Some t))

abbrev pub stops_clear : Row → Row
stops_clear = its (with_clear None)

-- one frame by P
abbrev pub single : Message → Machine → List Sent
single a m = record { port = m.primary; message = a; sequence = m.sequence } ∷ []

abbrev pub sends : Message → Row → Row
sends a r = record { machine = numbered r.machine; switch = r.switch; sent = r.sent ++ single a r.machine }

-- a link frame tells the remaining count times its interval
abbrev pub up_in : Machine → Message
up_in m = LinkUp (m.left * m.setup.link_up)

abbrev pub down_in : Machine → Message
down_in m = LinkDown (m.left * m.setup.link_down)

abbrev pub tells_up : Row → Row
tells_up r = r ▷ sends (up_in r.machine)

abbrev pub tells_down : Row → Row
tells_down r = r ▷ sends (down_in r.machine)

-- a port comes up; the Bool tells whether it is P
abbrev pub up : State → Bool → Port → Row → Row
-- C2, C4
up AcStat1 is_p p r = r ▷ names p ▷ sets_p Forwarding ▷ goes DeIdle
-- C9, C6
up DeIdle true p r = r
up DeIdle false p r = r ▷ refills ▷ starts_up ▷ tells_up ▷ goes Pt
-- C16, C13
up Pt is_p p r = r
-- C23, C20
up De true p r = r
up De false p r = r ▷ refills ▷ stops_down ▷ starts_up ▷ tells_up ▷ goes Pt
-- C28, C25
up PtIdle is_p p r = r

-- a port goes down
abbrev pub down : State → Bool → Row → Row
-- C3
down AcStat1 is_p r = r
-- C8, C7
down DeIdle true r = r ▷ sets_p Blocked ▷ goes AcStat1
down DeIdle false r = r
-- C15, C14
down Pt true r = r ▷ refills ▷ stops_up ▷ swaps ▷ sets_p Forwarding ▷ sets_s Blocked ▷ starts_down ▷ tells_down ▷ goes De
down Pt false r = r ▷ refills ▷ stops_up ▷ sets_s Blocked ▷ starts_down ▷ tells_down ▷ goes De
-- C22, C21
down De true r = r ▷ refills ▷ sets_p Blocked ▷ stops_down ▷ goes AcStat1
down De false r = r
-- C27, C26
down PtIdle true r = r ▷ refills ▷ swaps ▷ sets_s Blocked ▷ starts_down ▷ tells_down ▷ goes De
down PtIdle false r = r ▷ refills ▷ sets_s Blocked ▷ starts_down ▷ tells_down ▷ goes De

-- a topology change comes in t milliseconds
abbrev pub changes : ℕ → State → Row → Row
-- C5
changes t AcStat1 r = r
-- C10
changes t DeIdle r = r ▷ starts_clear t
-- C17
changes t Pt r = r ▷ refills ▷ stops_up ▷ sets_s Forwarding ▷ starts_clear t ▷ goes PtIdle
-- C24
changes t De r = r ▷ refills ▷ stops_down ▷ starts_clear t ▷ goes DeIdle
-- C29
changes t PtIdle r = r ▷ starts_clear t

-- the link-up timer has run out, and is stopped; the Bool tells whether frames are left
abbrev pub up_out : Bool → State → Row → Row
up_out more AcStat1 r = r
up_out more DeIdle r = r
-- C11, C12
up_out false Pt r = r ▷ refills ▷ sets_s Forwarding ▷ goes PtIdle
up_out true Pt r = r ▷ lessens ▷ starts_up ▷ tells_up
up_out more De r = r
up_out more PtIdle r = r

-- the link-down timer has run out, and is stopped
abbrev pub down_out : Bool → State → Row → Row
down_out more AcStat1 r = r
down_out more DeIdle r = r
down_out more Pt r = r
-- C18, C19
down_out false De r = r ▷ refills ▷ goes DeIdle
down_out true De r = r ▷ lessens ▷ starts_down ▷ tells_down
down_out more PtIdle r = r

abbrev pub hears : Option Heard → Row → Row
hears (Some said.OwnTest) r = r
hears (Some said.LinkFrame) r = r
hears (Some (said.TopologyChange t)) r = changes t r.machine.state r
hears None r = r

abbrev pub turns : Bool → Port → Row → Row
turns true p r = up r.machine.state (same_port p r.machine.primary) p r
turns false p r = down r.machine.state (same_port p r.machine.primary) r

-- a timer that runs has run out: it is stopped, then its row acts
abbrev pub fires : Timer → Row → Row
fires timer.Test r = r
fires timer.Topology r = r
fires timer.LinkUp r = r ▷ stops_up ▷ up_out (nat_lt 0 r.machine.left) r.machine.state
fires timer.LinkDown r = r ▷ stops_down ▷ down_out (nat_lt 0 r.machine.left) r.machine.state
-- C30
fires timer.Clear r = r ▷ stops_clear ▷ clears

abbrev pub expires : Result Timer Refusal → Row → Row
expires t r = steps.expires fires (timer_in r.machine) t r

abbrev pub acts : Event → Row → Row
acts (event.turns p b) r = turns b p r
acts (event.hears p xs) r = hears (heard r.machine.setup xs) r
acts (event.expires n) r = expires (timer_of n) r

-- what a run-out of a timer answers
abbrev pub expire_answer : ℕ → Machine → Result (Unit {0}) Refusal
expire_answer n m = run_out (timer_in m) (timer_of n)

-- every MRP frame goes on by the port that it did not come by
abbrev pub passed_by : Port → List ℕ → Option Port
passed_by p xs = cond (is_mrp xs) (Some (other p)) None
