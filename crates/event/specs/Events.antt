-- What happens to a node, and what it refuses.
use Rattle.std.specs.Prelude.{ℕ, zero, suc, Bool, true, false, cond, List, Some, None, Ok, Err, Option, Result, codes}
use Rattle.refusal.specs.declared.Refusal.{Refusal}
use Rattle.refusal.specs.declared.Refusal.TheVariants.{NoSuchTimer, TimerNotRunning}
use Rattle.switch.specs.declared.port.Port.{Port}
use Rattle.event.specs.declared.Timer.{Timer}
use Rattle.event.specs.declared.Timer.TheVariants.{Test, Topology, LinkUp, LinkDown, Clear}

-- the link at a port goes up or down; a frame comes by a port; the timer of a number runs out
pub data Event : Type 0 where
  turns : Port → Bool → Event
  hears : Port → List ℕ → Event
  expires : ℕ → Event

-- the timer of a number
abbrev pub timer_of : ℕ → Result Timer Refusal
timer_of zero = Ok Test
timer_of (suc zero) = Ok Topology
timer_of (suc (suc zero)) = Ok LinkUp
timer_of (suc (suc (suc zero))) = Ok LinkDown
timer_of (suc (suc (suc (suc zero)))) = Ok Clear
timer_of (suc (suc (suc (suc (suc n))))) = Err NoSuchTimer

-- the name of a timer
abbrev pub timer_name : Timer → List ℕ
timer_name Test = codes "test"
timer_name Topology = codes "topology"
timer_name LinkUp = codes "link-up"
timer_name LinkDown = codes "link-down"
timer_name Clear = codes "clear"

-- a timer holds the interval that it was started with, and runs where it holds one
abbrev pub is_on : Option ℕ → Bool
is_on (Some t) = true
is_on None = false

-- a run-out is refused where there is no such timer, then where it does not run
abbrev pub run_out : (Timer → Option ℕ) → Result Timer Refusal → Result (Unit {0}) Refusal
run_out timers (Err e) = Err e
run_out timers (Ok t) = cond (is_on (timers t)) (Ok tt) (Err TimerNotRunning)
