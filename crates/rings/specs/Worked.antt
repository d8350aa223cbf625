-- A worked history: a ring of 2 comes up, loses its tests, opens, and a loop stands.
use Rattle.std.specs.Prelude.{◌≡◌, ℕ, cond, List, [], ◌∷◌}
use Rattle.switch.specs.Meanings.{Meaning}
use Rattle.settings.specs.Setups.{Setup}
use Rattle.manager.specs.declared.state.State.{State}
use Rattle.manager.specs.declared.state.State.TheVariants.{AcStat1, PrmUp, ChkRc, ChkRo}
use Rattle.node.specs.declared.Node.{Node}
use Rattle.node.specs.declared.Node.TheVariants.{Client, Manager}
use Rattle.rings.specs.Rings.{Ring, fresh}
use Rattle.rings.specs.Calls.{Call, link_up, carry, lose, expire, step}
use Rattle.rings.specs.Floods.{loop, flood}

-- what a call shows: its refusal or 0, the three counts, the manager's state by its number, and 1 where a loop stands
pub record Line : Type 0 where
  pub refusal : ℕ
  pub sent : ℕ
  pub arrived : ℕ
  pub lost : ℕ
  pub state : ℕ
  pub looped : ℕ

abbrev pub line : ℕ → ℕ → ℕ → ℕ → ℕ → ℕ → Line
line a b c d e f = record { refusal = a; sent = b; arrived = c; lost = d; state = e; looped = f }

abbrev pub state_number : State → ℕ
state_number AcStat1 = 0
state_number PrmUp = 1
state_number ChkRc = 2
state_number ChkRo = 3

abbrev pub manager_state : Node → ℕ
manager_state (Manager m) = state_number m.state
manager_state (Client m) = 0

abbrev pub shown : ℕ → Ring → Line
shown n r = line r.refusal r.flow.sent r.flow.arrived r.flow.lost (manager_state (r.nodes 0)) (cond (loop n r) 1 0)

-- a line for the ring as it is, and one for each call
abbrev pub played : ℕ → Ring → List Call → List Line
played n r [] = shown n r ∷ []
played n r (c ∷ cs) = shown n r ∷ played n (step n c r) cs

abbrev pub ending : ℕ → Ring → List Call → Ring
ending n r [] = r
ending n r (c ∷ cs) = ending n (step n c r) cs

-- test count 3
abbrev pub three : Setup
three = record { short_test = 10; default_test = 20; topology = 10; link_up = 20; link_down = 20; test_count = 3; topology_count = 3; link_count = 4; priority = 0; domain = []; address = [] }

abbrev pub calls : List Call
calls = link_up 0 ∷ carry 0 0 ∷ link_up 1 ∷ carry 0 0 ∷ carry 1 0 ∷ carry 1 0 ∷ expire 0 0 ∷ expire 0 0 ∷ expire 0 0 ∷ lose 0 0 ∷ lose 0 0 ∷ carry 0 0 ∷ []

abbrev pub WorkedRing : Type 0
WorkedRing = (w : ℕ → Meaning) → played 2 (fresh three w) calls ≡
    line 0 0 0 0 0 0 ∷ line 0 2 0 1 1 0 ∷ line 0 0 0 1 1 0 ∷ line 0 2 0 0 2 0 ∷ line 0 0 0 0 2 0 ∷ line 0 0 1 0 2 0 ∷ line 20 0 0 0 2 0
    ∷ line 0 2 0 0 2 0 ∷ line 0 2 0 0 2 0 ∷ line 0 2 0 0 3 0 ∷ line 0 0 0 1 3 0 ∷ line 0 0 0 1 3 0 ∷ line 0 0 0 0 3 1 ∷ []

-- a flood from node 0 then lists 1 0 1 0
abbrev pub WorkedFlood : Type 0
WorkedFlood = (w : ℕ → Meaning) → flood 2 (ending 2 (fresh three w) calls) 0 ≡ 1 ∷ 0 ∷ 1 ∷ 0 ∷ []
