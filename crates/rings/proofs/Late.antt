-- The manager opens only after its count of run-outs, and closes on a test frame that comes home.
use Rattle.std.proofs.Common.{◌≡◌, ℕ, zero, suc, ◌+◌, ◌-◌, ◌<◌, ◌≤◌, Bool, true, false, cond, ◌&&◌, ◌||◌, eqb, ltb, List, [], ◌∷◌, Some, None, Option, refl, ap, ◌∙◌, arith}
use lib.Dec.{eqb-suc-zero}
use Rattle.std.proofs.lemmas.Bool.{both_ways}
use Rattle.std.proofs.lemmas.Bool.Decides.{nat_tests}
use Rattle.switch.specs.declared.port.Port.{Port}
use Rattle.switch.specs.declared.port.Port.TheVariants.{One, Two}
use Rattle.switch.specs.Ports.{other}
use Rattle.switch.specs.Meanings.{Meaning}
use Rattle.settings.specs.Setups.{Setup}
use Rattle.settings.proofs.Limits.{Counts}
use Rattle.event.specs.Events.{Event, turns, hears, expires}
use Rattle.hearing.specs.Heards.{heard}
use Rattle.hearing.specs.declared.Heard.TheVariants.{OwnTest}
use Rattle.outbox.specs.Rows.{opened}
use Rattle.manager.specs.Machines.{Machine}
use Rattle.manager.specs.declared.state.State.{State}
use Rattle.manager.specs.declared.state.State.TheVariants.{AcStat1, PrmUp, ChkRc, ChkRo}
use Rattle.node.specs.Nodes.{acts, passed_by, setup_of}
use Rattle.node.specs.declared.Node.{Node}
use Rattle.node.specs.declared.Node.TheVariants.{Client, Manager}
use Rattle.node_laws.specs.Links.{Both}
use Rattle.node_laws.specs.Managers.{ManagerFit, is_open}
use Rattle.rings.specs.Places.{next, link_at, landing}
use Rattle.rings.specs.Traffic.{Frame, Traffic, Out, is_test, join, drop, send, emit, uncork, purge}
use Rattle.rings.specs.Rings.{Ring, settings_at, with_flow, with_link, outs, acted, tell, ends, taken, bring, let_go}
use Rattle.rings.specs.Calls.{Call, link_up, link_down, carry, lose, expire, first, sentences, leaves_by, act, begun, proceed, step, after}
use Rattle.rings.specs.Floods.{loop}
use Rattle.rings.specs.Laws.{Limits, open_in, second_up, test_ran_out, count_run_out, run_outs, OpenIsLate, HomeLeavesNone}
use Rattle.rings.proofs.Places.{landing_below}
use Rattle.rings.proofs.Nodes.{Right, NodeFit}
use Rattle.rings.proofs.Sound.{place, granted_place, links_of, Sound, sound}
use Rattle.rings.proofs.Steady.{Every}
use Rattle.rings.proofs.Own.{Own, Kept, all_own}
use Rattle.rings.proofs.Flow.{counts_of}
use Rattle.rings.proofs.Loops.{loop_open, never}

-- the run-outs that the manager's state rests on
abbrev owed : Machine → State → ℕ
owed m AcStat1 = 0
owed m PrmUp = 0
owed m ChkRc = m.misses
owed m ChkRo = m.setup.test_count

abbrev owes : Node → ℕ
owes (Client m) = 0
owes (Manager m) = owed m m.state

-- a run-out of the test timer costs one
abbrev cost : Event → ℕ
cost (turns p b) = 0
cost (hears p xs) = 0
cost (expires t) = cond (eqb t 0) 1 0

manager_owes : (stamp : ℕ) (e : Event) (m : Machine) (w : Meaning) → owes (acts stamp e (opened (Manager m) w)).machine ≤ owes (Manager m) + cost e
manager_owes stamp e m w = grind (arith, nat_tests)

told_owes : (stamp : ℕ) (e : Event) (x : Node) (w : Meaning) → owes (acts stamp e (opened x w)).machine ≤ owes x + cost e
told_owes stamp e (Client m) w = omega arith
told_owes stamp e (Manager m) w = manager_owes stamp e m w

-- an own Test leaves nothing owed
manager_home : (stamp : ℕ) (p : Port) (xs : List ℕ) (m : Machine) (w : Meaning) → heard m.setup xs ≡ Some OwnTest → owes (acts stamp (hears p xs) (opened (Manager m) w)).machine ≡ 0
manager_home stamp p xs m w e = grind arith

-- nor does a link that comes up
abbrev at : Port → Both Bool → Bool
at One l = l.one
at Two l = l.two

manager_second : (stamp : ℕ) (m : Machine) (w : Meaning) (l : Both Bool) (p : Port) → ManagerFit m w l → at p l ≡ false → owes (acts stamp (turns p true) (opened (Manager m) w)).machine ≡ 0
manager_second stamp m w l p fit down = grind arith

node_second : (s : Setup) (stamp : ℕ) (x : Node) (w : Meaning) (l : Both Bool) (p : Port) → NodeFit s 0 x w l → at p l ≡ false → owes (acts stamp (turns p true) (opened x w)).machine ≡ 0
node_second s stamp (Manager m) w l p f down = manager_second stamp m w l p f.1 down
node_second s stamp (Client m) w l p f down = absurd f.0

node_home : (s : Setup) (stamp : ℕ) (p : Port) (xs : List ℕ) (x : Node) (w : Meaning) → Right s 0 x → heard (settings_at s 0) xs ≡ Some OwnTest → owes (acts stamp (hears p xs) (opened x w)).machine ≡ 0
node_home s stamp p xs (Manager m) w g e = manager_home stamp p xs m w (ap (λ (u : Setup). heard u xs) g.its ∙ e)
node_home s stamp p xs (Client m) w g e = absurd g

abbrev is_manager : Node → Bool
is_manager (Client m) = false
is_manager (Manager m) = true

others_clients : (s : Setup) (k : ℕ) (x : Node) → Right s (suc k) x → is_manager x ≡ false
others_clients s k (Client m) g = refl
others_clients s k (Manager m) g = absurd g

count_le : (arr : ℕ) (sec ran : Bool) (o o' m : ℕ) → (0 < arr → o' ≡ 0) → (sec ≡ true → o' ≡ 0) → o' ≤ o + cond ran 1 0 → o ≤ m → o' ≤ cond (ltb 0 arr || sec) 0 (m + cond ran 1 0)
count_le arr sec ran o o' m home up more old = grind (arith, nat_tests)

module _ (n : ℕ) where
  tell_owes : (k : ℕ) (e : Event) (r : Ring) → owes ((tell n k e r).nodes 0) ≤ owes (r.nodes 0) + cost e
  tell_owes zero e r = told_owes r.expired e (r.nodes 0) (r.switches 0)
  tell_owes (suc k) e r = rw (eqb-suc-zero k) (omega arith)

  tell_timer : (k t : ℕ) (r : Ring) → owes ((tell n k (expires t) r).nodes 0) ≤ owes (r.nodes 0) + cond (eqb k 0 && eqb t 0) 1 0
  tell_timer zero t r = tell_owes zero (expires t) r
  tell_timer (suc k) t r = rw (eqb-suc-zero k) (omega arith)

  send_arrived : (l : ℕ → Bool) (p : Port) (i : ℕ) (f : Frame) (t : Traffic) → (send n l p i f t).arrived ≡ t.arrived
  send_arrived l p i f t = grind arith

  emit_arrived : (l : ℕ → Bool) (k : ℕ) (os : List Out) (t : Traffic) → (emit n l k os t).arrived ≡ t.arrived
  emit_arrived l k [] t = refl
  emit_arrived l k (o ∷ os) t = emit_arrived l k os (send n l o.port (link_at n k o.port) o.frame t) ∙ send_arrived l o.port (link_at n k o.port) o.frame t

  tell_arrived : (k : ℕ) (e : Event) (r : Ring) → (tell n k e r).flow.arrived ≡ r.flow.arrived
  tell_arrived k e r = emit_arrived r.links k (outs (setup_of (r.nodes k)) (acted k e r).sent) r.flow

  ends_arrived : (i : ℕ) (b : Bool) (r : Ring) → (ends n i b r).flow.arrived ≡ r.flow.arrived
  ends_arrived i b r = tell_arrived (next n i) (turns One b) (tell n i (turns Two b) r) ∙ tell_arrived i (turns Two b) r

  ends_owes : (i : ℕ) (b : Bool) (r : Ring) → owes ((ends n i b r).nodes 0) ≤ owes (r.nodes 0)
  ends_owes i b r = omega (arith, tell_owes (next n i) (turns One b) (tell n i (turns Two b) r), tell_owes i (turns Two b) r)

  bring_owes : (fs : List Frame) (p : Port) (i : ℕ) (r : Ring) → owes ((bring n fs p i r).nodes 0) ≤ owes (r.nodes 0)
  bring_owes [] p i r = omega arith
  bring_owes (f ∷ fs) p i r =
      let k : ℕ = landing n p i in
      omega (arith, tell_owes k (hears (other p) f.octets) (with_flow (taken n r.links k (r.nodes k) (passed_by (other p) f.octets (r.nodes k)) f (uncork p i r.flow)) r))

  lose_owes : (fs : List Frame) (p : Port) (i : ℕ) (r : Ring) → owes ((let_go fs p i r).nodes 0) ≤ owes (r.nodes 0)
  lose_owes [] p i r = omega arith
  lose_owes (f ∷ fs) p i r = omega arith

  -- a call costs what the manager's run-out costs
  act_owes : (x : Call) (r : Ring) → r.refusal ≡ 0 → owes ((act n x r).nodes 0) ≤ owes (r.nodes 0) + cond (test_ran_out x (act n x r)) 1 0
  act_owes (link_up i) r go = omega (arith, ends_owes i true (with_link i true r))
  act_owes (link_down i) r go = omega (arith, ends_owes i false (with_link i false (with_flow (purge One i (purge Two i r.flow)) r)))
  act_owes (carry i d) r go = omega (arith, bring_owes (r.flow.queues (leaves_by d) i) (leaves_by d) i r)
  act_owes (lose i d) r go = omega (arith, lose_owes (r.flow.queues (leaves_by d) i) (leaves_by d) i r)
  act_owes (expire k t) r go = rw go (tell_timer k t r)

  -- a test frame arrives only at a manager
  arrives : (l : ℕ → Bool) (k : ℕ) (x : Node) (o : Option Port) (f : Frame) (t : Traffic) → t.arrived ≡ 0 → 0 < (taken n l k x o f t).arrived → (is_manager x ≡ true) × (is_test f.octets ≡ true)
  arrives l k (Manager m) o f t none h = (refl, counts (is_test f.octets) (omega arith))
    where
      counts : (b : Bool) → 0 < cond b 1 0 → b ≡ true
      counts b h = grind arith
  arrives l k (Client m) (Some q) f t none h = absurd (stays (l (link_at n k q)) h)
    where
      stays : (b : Bool) → 0 < (cond b (join q (link_at n k q) f t) (drop f t)).arrived → ⊥
      stays true h = omega (arith, none)
      stays false h = omega (arith, none)
  arrives l k (Client m) None f t none h = absurd (omega (arith, none))

  module _ (s : Setup) where
    -- where it does, nothing is owed then
    home_at : (k : ℕ) (q : Port) (xs : List ℕ) (r : Ring) → Right s k (r.nodes k) → is_manager (r.nodes k) ≡ true → heard (settings_at s 0) xs ≡ Some OwnTest → owes ((tell n k (hears q xs) r).nodes 0) ≡ 0
    home_at zero q xs r g is e = node_home s r.expired q xs (r.nodes 0) (r.switches 0) g e
    home_at (suc k) q xs r g is e = absurd (both_ways (is_manager (r.nodes (suc k))) (others_clients s k (r.nodes (suc k)) g) is)

    bring_home : (fs : List Frame) (p : Port) (i : ℕ) (r : Ring) → i < n → ((k : ℕ) → k < n → Right s k (r.nodes k)) → Every (Own s) fs → r.flow.arrived ≡ 0 → 0 < (bring n fs p i r).flow.arrived → owes ((bring n fs p i r).nodes 0) ≡ 0
    bring_home [] p i r hi g own none h = absurd (omega arith)
    bring_home (f ∷ fs) p i r hi g own none h =
        let k : ℕ = landing n p i in
        let x : Node = r.nodes k in
        let o : Option Port = passed_by (other p) f.octets x in
        let t : Traffic = uncork p i r.flow in
        let q : Ring = with_flow (taken n r.links k x o f t) r in
        let came = arrives r.links k x o f t none (omega (arith, tell_arrived k (hears (other p) f.octets) q)) in
        home_at k (other p) f.octets q (g k (landing_below n p i hi)) came.0 (own.0 came.1)

    lose_arrived : (fs : List Frame) (p : Port) (i : ℕ) (r : Ring) → (let_go fs p i r).flow.arrived ≡ r.flow.arrived
    lose_arrived [] p i r = refl
    lose_arrived (f ∷ fs) p i r = refl

    act_home : (x : Call) (r : Ring) → place x < n → ((k : ℕ) → k < n → Right s k (r.nodes k)) → Kept (Own s) r.flow → r.flow.arrived ≡ 0 → 0 < (act n x r).flow.arrived → owes ((act n x r).nodes 0) ≡ 0
    act_home (link_up i) r hi g own none h = absurd (omega (arith, ends_arrived i true (with_link i true r)))
    act_home (link_down i) r hi g own none h = absurd (omega (arith, ends_arrived i false (with_link i false (with_flow (purge One i (purge Two i r.flow)) r))))
    act_home (carry i d) r hi g own none h = bring_home (r.flow.queues (leaves_by d) i) (leaves_by d) i r hi g (own (leaves_by d) i) none h
    act_home (lose i d) r hi g own none h = absurd (omega (arith, lose_arrived (r.flow.queues (leaves_by d) i) (leaves_by d) i r))
    act_home (expire k t) r hi g own none h = absurd (omega (arith, tell_arrived k (expires t) r))

    module _ (c : Counts (settings_at s 0)) where
      -- the manager's second link leaves nothing owed
      act_second : (x : Call) (r : Ring) → 2 ≤ n → Sound n s c r → first (sentences n x r) ≡ 0 → second_up n x (act n x r) ≡ true → owes ((act n x r).nodes 0) ≡ 0
      act_second (link_up zero) r h2 f ok e =
          let next-is : next n 0 ≡ 1 = grind (arith, nat_tests) in
          let down : r.links 0 ≡ false = grind (arith, nat_tests) in
          rw next-is (node_second s r.expired (r.nodes 0) (r.switches 0) (links_of n r.links 0) Two (f 0 (omega arith)) down)
      act_second (link_up (suc i)) r h2 f ok e =
          let last : suc i ≡ n - 1 = grind (arith, nat_tests) in
          let next-is : next n (suc i) ≡ 0 = grind (arith, nat_tests) in
          let down : r.links (n - 1) ≡ false = grind (arith, nat_tests) in
          rw (next-is, eqb-suc-zero i) (node_second s r.expired (r.nodes 0) (r.switches 0) (links_of n r.links 0) One (f 0 (omega arith)) down)
      act_second (link_down i) r h2 f ok e = absurd (both_ways false refl e)
      act_second (carry i d) r h2 f ok e = absurd (both_ways false refl e)
      act_second (lose i d) r h2 f ok e = absurd (both_ways false refl e)
      act_second (expire k t) r h2 f ok e = absurd (both_ways false refl e)

      second_granted : (x : Call) (r : Ring) → second_up n x r ≡ true → r.refusal ≡ 0
      second_granted (link_up i) r e = grind (arith, nat_tests)
      second_granted (link_down i) r e = absurd (both_ways false refl e)
      second_granted (carry i d) r e = absurd (both_ways false refl e)
      second_granted (lose i d) r e = absurd (both_ways false refl e)
      second_granted (expire k t) r e = absurd (both_ways false refl e)

      same_sentences : (x : Call) (r : Ring) (k : ℕ) → first (sentences n x (begun n k r)) ≡ first (sentences n x r)
      same_sentences (link_up i) r k = refl
      same_sentences (link_down i) r k = refl
      same_sentences (carry i d) r k = refl
      same_sentences (lose i d) r k = refl
      same_sentences (expire i t) r k = refl

      step_late : (x : Call) (r : Ring) (m : ℕ) → 2 ≤ n → Sound n s c r → Kept (Own s) r.flow → owes (r.nodes 0) ≤ m → owes ((step n x r).nodes 0) ≤ count_run_out n x (step n x r) m
      step_late x r m h2 f own old = go (first (sentences n x r)) refl
        where
          go : (k : ℕ) → first (sentences n x r) ≡ k → owes ((proceed n k x (begun n k r)).nodes 0) ≤ count_run_out n x (proceed n k x (begun n k r)) m
          go zero e =
              let q : Ring = begun n zero r in
              count_le (act n x q).flow.arrived (second_up n x (act n x q)) (test_ran_out x (act n x q)) (owes (r.nodes 0)) (owes ((act n x q).nodes 0)) m
              (act_home x q (granted_place n x r e) (λ k hk. (f k hk).0) own refl) (act_second x q h2 f (same_sentences x r zero ∙ e)) (act_owes x q refl) old
          go (suc k) e =
              count_le 0 (second_up n x (begun n (suc k) r)) (test_ran_out x (begun n (suc k) r)) (owes (r.nodes 0)) (owes (r.nodes 0)) m
              (λ h. absurd (omega arith)) (λ h. absurd (omega (arith, second_granted x (begun n (suc k) r) h))) (omega arith) old

      step_home : (x : Call) (r : Ring) → Sound n s c r → Kept (Own s) r.flow → 0 < (step n x r).flow.arrived → owes ((step n x r).nodes 0) ≡ 0
      step_home x r f own h = go (first (sentences n x r)) refl h
        where
          go : (k : ℕ) → first (sentences n x r) ≡ k → 0 < (proceed n k x (begun n k r)).flow.arrived → owes ((proceed n k x (begun n k r)).nodes 0) ≡ 0
          go zero e h = act_home x (begun n zero r) (granted_place n x r e) (λ k hk. (f k hk).0) own refl h
          go (suc k) e h = absurd (omega arith)

late : (n : ℕ) (s : Setup) (w : ℕ → Meaning) → Limits s n → (h : List Call) → owes ((after n s w h).nodes 0) ≤ run_outs n s w h
late n s w lim [] = omega arith
late n s w lim (x ∷ h) = let c = counts_of s n lim in step_late n s c x (after n s w h) (run_outs n s w h) lim.least (sound n s c w h lim.least) (all_own n s w lim h) (late n s w lim h)

open_owes : (s : Setup) (x : Node) → Right s 0 x → open_in x ≡ true → owes x ≡ s.test_count
open_owes s (Manager m) g e = manager_open m.state e ∙ ap (λ (u : Setup). u.test_count) g.its
  where
    manager_open : (t : State) → is_open t ≡ true → owed m t ≡ m.setup.test_count
    manager_open t e = grind arith
open_owes s (Client m) g e = absurd g

pub open_is_late : OpenIsLate
open_is_late n s w lim h e = let c = counts_of s n lim in omega (arith, late n s w lim h, open_owes s ((after n s w h).nodes 0) (sound n s c w h lim.least 0 (omega (arith, lim.least))).0 e)

pub home_leaves_none : HomeLeavesNone
home_leaves_none n s w lim x h some =
    let c = counts_of s n lim in
    let r : Ring = after n s w (x ∷ h) in
    let f = sound n s c w (x ∷ h) lim.least in
    never (loop n r) (λ e. omega (arith, c.tests.0, step_home n s c x (after n s w h) (sound n s c w h lim.least) (all_own n s w lim h) some, open_owes s (r.nodes 0) (f 0 (omega (arith, lim.least))).0 (loop_open n s c r lim.least f e)))
