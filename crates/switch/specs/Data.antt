-- A data frame at a switch: what is learned of it, and the port by which it leaves.
use Rattle.std.specs.Prelude.{◌≡◌, ℕ, Bool, false, cond, not, ◌&&◌, List, Some, None, Option}
use Rattle.switch.specs.declared.port.Port.{Port}
use Rattle.switch.specs.Ports.{other, same_port, is_forwarding}
use Rattle.switch.specs.Meanings.{Meaning, state_at}
use Rattle.switch.specs.Calls.{learned}

abbrev pub forwards : Port → Meaning → Bool
forwards p m = is_forwarding (state_at p m)

-- whether an answer names this port
abbrev pub is_at : Port → Option Port → Bool
is_at p None = false
is_at p (Some q) = same_port q p

-- the switch afterwards: the source stands at the port p it came by, if that forwards and learning is not refused
abbrev pub heard : ℕ → List ℕ → Port → Meaning → Meaning
heard k source p m = cond (forwards p m) (learned k source p m) m

-- it leaves by the other port if both forward, and if its destination is not known at the port p it came by
abbrev pub leaves_by : ℕ → List ℕ → List ℕ → Port → Meaning → Option Port
leaves_by k source destination p m =
    cond (forwards p m && forwards (other p) m && not (is_at p ((heard k source p m).known destination))) (Some (other p)) None

-- a data frame never leaves by the port it came by
abbrev pub NeverBack : Port → Option Port → Type 0
NeverBack p r = is_at p r ≡ false
