-- The links that a node was told of, and its ports.
use Rattle.std.specs.Prelude.{Bool}
use Rattle.switch.specs.Meanings.{Meaning}
use Rattle.switch.specs.declared.port.Port.{Port}
use Rattle.switch.specs.declared.port.Port.TheVariants.{One, Two}
use Rattle.switch.specs.declared.port.PortState.{PortState}
use Rattle.event.specs.Events.{Event, turns, hears, expires}

-- one for each ring port
pub record Both (A : Type 0) : Type 0 where
  pub one : A
  pub two : A

module _ {A : Type 0} where
  abbrev pub both : A → A → Both A
  both a b = record { one = a; two = b }

  abbrev pub put : Port → A → Both A → Both A
  put One a t = both a t.two
  put Two a t = both t.one a

abbrev pub ports : Meaning → Both PortState
ports w = both w.first w.second

-- which links are up, after an event
abbrev pub told : Event → Both Bool → Both Bool
told (turns p b) l = put p b l
told (hears p xs) l = l
told (expires n) l = l
