-- The two ring ports, and what is asked of a port.
use Rattle.std.specs.Prelude.{ℕ, Bool, true, false, List, codes}
use Rattle.switch.specs.declared.port.Port.{Port}
use Rattle.switch.specs.declared.port.Port.TheVariants.{One, Two}
use Rattle.switch.specs.declared.port.PortState.{PortState}
use Rattle.switch.specs.declared.port.PortState.TheVariants.{Disabled, Blocked, Forwarding}

-- the number of a port
abbrev pub port_number : Port → ℕ
port_number One = 1
port_number Two = 2

abbrev pub other : Port → Port
other One = Two
other Two = One

abbrev pub same_port : Port → Port → Bool
same_port One One = true
same_port One Two = false
same_port Two One = false
same_port Two Two = true

abbrev pub is_forwarding : PortState → Bool
is_forwarding Disabled = false
is_forwarding Blocked = false
is_forwarding Forwarding = true

-- a port as it is printed, in ASCII
abbrev pub port_text : Port → List ℕ
port_text One = codes "1"
port_text Two = codes "2"

-- a state as it is printed, in ASCII
abbrev pub state_text : PortState → List ℕ
state_text Disabled = codes "DISABLED"
state_text Blocked = codes "BLOCKED"
state_text Forwarding = codes "FORWARDING"
