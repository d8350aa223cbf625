-- The names that the standard gives the states of a manager.
use Rattle.std.specs.Prelude.{ℕ, List, codes}
use Rattle.manager.specs.declared.state.State.{State}
use Rattle.manager.specs.declared.state.State.TheVariants.{AcStat1, PrmUp, ChkRc, ChkRo}

abbrev pub state_name : State → List ℕ
state_name AcStat1 = codes "AC_STAT1"
state_name PrmUp = codes "PRM_UP"
state_name ChkRc = codes "CHK_RC"
state_name ChkRo = codes "CHK_RO"
