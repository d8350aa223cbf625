-- Every node fits its links, after every history.
use Rattle.std.proofs.Common.{◌≡◌, ℕ, zero, suc, ◌<◌, ◌≤◌, Bool, true, false, List, [], ◌∷◌, refl, ap, ◌∙◌, subst, arith}
use Rattle.std.proofs.lemmas.Bool.Decides.{nat_tests}
use Rattle.switch.specs.declared.port.Port.{Port}
use Rattle.switch.specs.declared.port.Port.TheVariants.{One, Two}
use Rattle.switch.specs.Ports.{other}
use Rattle.switch.specs.Meanings.{Meaning}
use Rattle.settings.specs.Setups.{Setup}
use Rattle.settings.proofs.Limits.{Counts}
use Rattle.event.specs.Events.{Event, turns, hears, expires}
use Rattle.node.specs.Nodes.{passed_by}
use Rattle.node_laws.specs.Links.{Both, both, put, told}
use Rattle.rings.specs.Places.{change, next, back, landing}
use Rattle.rings.specs.Traffic.{Frame, uncork, purge}
use Rattle.rings.specs.Rings.{Ring, settings_at, fresh, with_flow, with_link, acted, tell, ends, taken, bring, let_go}
use Rattle.rings.specs.Calls.{Call, link_up, link_down, carry, lose, expire, first, sentences, leaves_by, act, begun, proceed, step, after}
use Rattle.rings.proofs.Places.{change_all, next_below, landing_below}
use Rattle.rings.proofs.Nodes.{NodeFit, fit_kept, right_started}

-- which place a call names
abbrev pub place : Call → ℕ
place (link_up i) = i
place (link_down i) = i
place (carry i d) = i
place (lose i d) = i
place (expire k t) = k

change_none : {A : Type 0} (k j : ℕ) (v : ℕ → A) → change k (v k) v j ≡ v j
change_none k j v = grind (arith, nat_tests)

module _ (n : ℕ) where
  -- the links at the two ports of node k
  abbrev pub links_of : (ℕ → Bool) → ℕ → Both Bool
  links_of l k = both (l (back n k)) (l k)

  pub granted_place : (c : Call) (r : Ring) → first (sentences n c r) ≡ 0 → place c < n
  granted_place (link_up i) r e = grind (arith, nat_tests)
  granted_place (link_down i) r e = grind (arith, nat_tests)
  granted_place (carry i d) r e = grind (arith, nat_tests)
  granted_place (lose i d) r e = grind (arith, nat_tests)
  granted_place (expire k t) r e = grind (arith, nat_tests)

  both_told : (i j : ℕ) (b : Bool) (l : ℕ → Bool) → i < n → j < n → 2 ≤ n →
      change (next n i) (put One b (change i (put Two b (links_of l i)) (links_of l) (next n i))) (change i (put Two b (links_of l i)) (links_of l)) j ≡ links_of (change i b l) j
  both_told i zero b l hi hj h2 = grind (arith, nat_tests)
  both_told i (suc j) b l hi hj h2 = grind (arith, nat_tests)

  module _ (s : Setup) (c : Counts (settings_at s 0)) where
    -- every node fits what v says it was told
    abbrev pub Told : (ℕ → Both Bool) → Ring → Type 0
    Told v r = (k : ℕ) → k < n → NodeFit s k (r.nodes k) (r.switches k) (v k)

    tell_fit : (k : ℕ) (e : Event) (v : ℕ → Both Bool) (r : Ring) → k < n → Told v r → Told (change k (told e (v k)) v) (tell n k e r)
    tell_fit k e v r hk f j hj =
        change_all (NodeFit s) k j (acted k e r).machine (acted k e r).switch (told e (v k)) r.nodes r.switches v
        (fit_kept s c r.expired k e (r.nodes k) (r.switches k) (v k) (f k hk)) (f j hj)

    -- an event that is no link change
    tell_same : (k : ℕ) (e : Event) (v : ℕ → Both Bool) (r : Ring) → k < n → told e (v k) ≡ v k → Told v r → Told v (tell n k e r)
    tell_same k e v r hk same f j hj = subst (NodeFit s j ((tell n k e r).nodes j) ((tell n k e r).switches j)) (ap (λ a. change k a v j) same ∙ change_none k j v) (tell_fit k e v r hk f j hj)

    -- every node fits its links
    abbrev pub Sound : Ring → Type 0
    Sound r = Told (links_of r.links) r

    ends_fit : (i : ℕ) (b : Bool) (r : Ring) → 2 ≤ n → i < n → Sound r → Sound (ends n i b (with_link i b r))
    ends_fit i b r h2 hi f j hj =
        let v : ℕ → Both Bool = links_of r.links in
        let r₁ : Ring = tell n i (turns Two b) (with_link i b r) in
        let once : Told (change i (put Two b (v i)) v) r₁ = tell_fit i (turns Two b) v (with_link i b r) hi f in
        subst (NodeFit s j ((ends n i b (with_link i b r)).nodes j) ((ends n i b (with_link i b r)).switches j)) (both_told i j b r.links hi hj h2)
        (tell_fit (next n i) (turns One b) (change i (put Two b (v i)) v) r₁ (next_below n i hi) once j hj)

    bring_fit : (fs : List Frame) (p : Port) (i : ℕ) (r : Ring) → i < n → Sound r → Sound (bring n fs p i r)
    bring_fit [] p i r hi f = f
    bring_fit (x ∷ fs) p i r hi f =
        let k = landing n p i in
        tell_same k (hears (other p) x.octets) (links_of r.links) (with_flow (taken n r.links k (r.nodes k) (passed_by (other p) x.octets (r.nodes k)) x (uncork p i r.flow)) r) (landing_below n p i hi) refl f

    let_go_fit : (fs : List Frame) (p : Port) (i : ℕ) (r : Ring) → Sound r → Sound (let_go fs p i r)
    let_go_fit [] p i r f = f
    let_go_fit (x ∷ fs) p i r f = f

    act_fit : (k : Call) (r : Ring) → 2 ≤ n → place k < n → Sound r → Sound (act n k r)
    act_fit (link_up i) r h2 h f = ends_fit i true r h2 h f
    act_fit (link_down i) r h2 h f = ends_fit i false (with_flow (purge One i (purge Two i r.flow)) r) h2 h f
    act_fit (carry i d) r h2 h f = bring_fit (r.flow.queues (leaves_by d) i) (leaves_by d) i r h f
    act_fit (lose i d) r h2 h f = let_go_fit (r.flow.queues (leaves_by d) i) (leaves_by d) i r f
    act_fit (expire k t) r h2 h f = tell_same k (expires t) (links_of r.links) r h refl f

    step_fit : (k : Call) (r : Ring) → 2 ≤ n → Sound r → Sound (step n k r)
    step_fit k r h2 f = go (first (sentences n k r)) refl
      where
        go : (x : ℕ) → first (sentences n k r) ≡ x → Sound (proceed n x k (begun n x r))
        go zero e = act_fit k (begun n zero r) h2 (granted_place k r e) f
        go (suc x) e = f

    fresh_fit : (w : ℕ → Meaning) → Sound (fresh s w)
    fresh_fit w zero h = (right_started s c zero, record { links = refl; states = refl; tests = refl })
    fresh_fit w (suc k) h = (right_started s c (suc k), record { links = refl; states = refl; up = refl; down = refl; few = omega arith })

    pub sound : (w : ℕ → Meaning) (h : List Call) → 2 ≤ n → Sound (after n s w h)
    sound w [] h2 = fresh_fit w
    sound w (k ∷ h) h2 = step_fit k (after n s w h) h2 (sound w h h2)
