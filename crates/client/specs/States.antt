-- The names that the standard gives the states of a client.
use Rattle.std.specs.Prelude.{ℕ, List, codes}
use Rattle.client.specs.declared.state.State.{State}
use Rattle.client.specs.declared.state.State.TheVariants.{AcStat1, DeIdle, De, Pt, PtIdle}

abbrev pub state_name : State → List ℕ
state_name AcStat1 = codes "AC_STAT1"
state_name DeIdle = codes "DE_IDLE"
state_name De = codes "DE"
state_name Pt = codes "PT"
state_name PtIdle = codes "PT_IDLE"
