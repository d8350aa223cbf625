-- The laws of a ring, over every history of calls on a new ring.
use Rattle.std.specs.Prelude.{◌≡◌, ℕ, ◌+◌, ◌-◌, ◌<◌, ◌≤◌, Bool, true, false, cond, ◌&&◌, ◌||◌, List, [], ◌∷◌, None, ◌==◌, ◌≢◌, nat_lt}
use Rattle.switch.specs.Meanings.{Meaning}
use Rattle.settings.specs.Setups.{Setup, within}
use Rattle.event.specs.declared.Timer.TheVariants as timer
use Rattle.node.specs.Nodes.{timer_in}
use Rattle.node.specs.declared.Node.{Node}
use Rattle.node.specs.declared.Node.TheVariants.{Client, Manager}
use Rattle.node_laws.specs.Managers.{is_open}
use Rattle.rings.specs.Traffic.{tests, any, held}
use Rattle.rings.specs.Rings.{Ring, settings_at}
use Rattle.rings.specs.Calls.{Call, link_up, link_down, carry, lose, expire, after}
use Rattle.rings.specs.Floods.{loop, flood, times}

-- a ring of 2 to 50 nodes, with intervals and counts within their limits
pub record Limits (s : Setup) (n : ℕ) : Type 0 where
  pub least : 2 ≤ n
  pub most : n ≤ 50
  pub settings : within (settings_at s 0) ≡ true

-- whether the manager is ring-open
abbrev pub open_in : Node → Bool
open_in (Client m) = false
open_in (Manager m) = is_open m.state

abbrev pub ring_open : Ring → Bool
ring_open r = open_in (r.nodes 0)

module _ (n : ℕ) (s : Setup) (w : ℕ → Meaning) where
  -- test frames sent, arrived and lost, added up from all answers of a history
  abbrev pub all_sent : List Call → ℕ
  all_sent [] = 0
  all_sent (c ∷ h) = (after n s w (c ∷ h)).flow.sent + all_sent h

  abbrev pub all_arrived : List Call → ℕ
  all_arrived [] = 0
  all_arrived (c ∷ h) = (after n s w (c ∷ h)).flow.arrived + all_arrived h

  abbrev pub all_lost : List Call → ℕ
  all_lost [] = 0
  all_lost (c ∷ h) = (after n s w (c ∷ h)).flow.lost + all_lost h

  -- test frames that wait on a link
  abbrev pub waiting : List Call → ℕ
  waiting h = held n tests (after n s w h).flow.queues

-- a call that left ring r: an accepted link up of one of the manager's two links that leaves both up
abbrev pub second_up : ℕ → Call → Ring → Bool
second_up n (link_up i) r = r.refusal == 0 && ((i == 0 || i == n - 1) && (r.links 0 && r.links (n - 1)))
second_up n (link_down i) r = false
second_up n (carry i d) r = false
second_up n (lose i d) r = false
second_up n (expire k t) r = false

-- a call that left ring r: an accepted run-out of the manager's test timer
abbrev pub test_ran_out : Call → Ring → Bool
test_ran_out (link_up i) r = false
test_ran_out (link_down i) r = false
test_ran_out (carry i d) r = false
test_ran_out (lose i d) r = false
test_ran_out (expire k t) r = r.refusal == 0 && (k == 0 && t == 0)

-- run-outs since a test frame last arrived or the second link came up: m before call c, which left ring r
abbrev pub count_run_out : ℕ → Call → Ring → ℕ → ℕ
count_run_out n c r m = cond (nat_lt 0 r.flow.arrived || second_up n c r) 0 (m + cond (test_ran_out c r) 1 0)

abbrev pub run_outs : ℕ → Setup → (ℕ → Meaning) → List Call → ℕ
run_outs n s w [] = 0
run_outs n s w (c ∷ h) = count_run_out n c (after n s w (c ∷ h)) (run_outs n s w h)

-- a: test frames sent are those that arrived, were lost or wait on a link
abbrev pub TestsAddUp : Type 0
TestsAddUp = (n : ℕ) (s : Setup) (w : ℕ → Meaning) → Limits s n → (h : List Call) → all_sent n s w h ≡ all_arrived n s w h + all_lost n s w h + waiting n s w h

-- no more than 128 frames wait
abbrev pub AtMost128 : Type 0
AtMost128 = (n : ℕ) (s : Setup) (w : ℕ → Meaning) → Limits s n → (h : List Call) → held n any (after n s w h).flow.queues ≤ 128

-- b: if a loop stands, the manager is ring-open
abbrev pub LoopIsOpen : Type 0
LoopIsOpen = (n : ℕ) (s : Setup) (w : ℕ → Meaning) → Limits s n → (h : List Call) → loop n (after n s w h) ≡ true → ring_open (after n s w h) ≡ true

-- b: while it is ring-open, its test timer ran out at least as often as its count since a test frame last arrived, or since
-- its second link came up if that is later
abbrev pub OpenIsLate : Type 0
OpenIsLate = (n : ℕ) (s : Setup) (w : ℕ → Meaning) → Limits s n → (h : List Call) → ring_open (after n s w h) ≡ true → s.test_count ≤ run_outs n s w h

-- b: no link up starts a loop
abbrev pub LinkUpStartsNone : Type 0
LinkUpStartsNone = (n : ℕ) (s : Setup) (w : ℕ → Meaning) → Limits s n → (i : ℕ) (h : List Call) → loop n (after n s w h) ≡ false → loop n (after n s w (link_up i ∷ h)) ≡ false

-- b: a call that brings a test frame home leaves no loop
abbrev pub HomeLeavesNone : Type 0
HomeLeavesNone = (n : ℕ) (s : Setup) (w : ℕ → Meaning) → Limits s n → (c : Call) (h : List Call) → 0 < (after n s w (c ∷ h)).flow.arrived → loop n (after n s w (c ∷ h)) ≡ false

-- c: a flood from any node lists some node twice exactly when a loop stands
abbrev pub TwiceIsLoop : Type 0
TwiceIsLoop = (n : ℕ) (s : Setup) (w : ℕ → Meaning) → Limits s n → (h : List Call) (k : ℕ) → k < n →
    (loop n (after n s w h) ≡ true → (j : ℕ) × (times j (flood n (after n s w h) k) ≡ 2)) × ((j : ℕ) → 2 ≤ times j (flood n (after n s w h) k) → loop n (after n s w h) ≡ true)

-- all links are up, and no link-up timer runs
pub record Settled (n : ℕ) (r : Ring) : Type 0 where
  pub up : (i : ℕ) → i < n → r.links i ≡ true
  pub idle : (k : ℕ) → k < n → timer_in (r.nodes k) timer.LinkUp ≡ None

-- every node but k is listed exactly once
abbrev pub EachOnce : ℕ → ℕ → List ℕ → Type 0
EachOnce n k js = (j : ℕ) → j < n → (j ≢ k) → times j js ≡ 1

-- c: then a flood lists every other node exactly once exactly when the manager is not ring-open
abbrev pub OnceIsClosed : Type 0
OnceIsClosed = (n : ℕ) (s : Setup) (w : ℕ → Meaning) → Limits s n → (h : List Call) (k : ℕ) → k < n → Settled n (after n s w h) →
    (ring_open (after n s w h) ≡ false → EachOnce n k (flood n (after n s w h) k)) × (EachOnce n k (flood n (after n s w h) k) → ring_open (after n s w h) ≡ false)
