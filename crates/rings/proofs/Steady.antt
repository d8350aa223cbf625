-- What holds of the traffic after every history, if each thing that can happen to a frame keeps it.
use Rattle.std.proofs.Common.{◌≡◌, ℕ, zero, suc, ◌<◌, ◌≤◌, Bool, true, false, List, [], ◌∷◌, Some, None, Option, refl, arith}
use Rattle.switch.specs.declared.port.Port.{Port}
use Rattle.switch.specs.declared.port.Port.TheVariants.{One, Two}
use Rattle.switch.specs.Ports.{other}
use Rattle.switch.specs.Meanings.{Meaning}
use Rattle.settings.specs.Setups.{Setup}
use Rattle.settings.proofs.Limits.{Counts}
use Rattle.event.specs.Events.{Event, turns, hears, expires}
use Rattle.outbox.specs.Rows.{opened}
use Rattle.node.specs.Nodes.{setup_of, acts, passed_by}
use Rattle.node.specs.declared.Node.{Node}
use Rattle.node.specs.declared.Node.TheVariants.{Client, Manager}
use Rattle.rings.specs.Places.{next, link_at, landing}
use Rattle.rings.specs.Traffic.{Frame, Traffic, Out, join, drop, home, send, emit, uncork, purge}
use Rattle.rings.specs.Rings.{Ring, settings_at, with_flow, with_link, outs, acted, tell, ends, taken, bring, let_go}
use Rattle.rings.specs.Calls.{Call, link_up, link_down, carry, lose, expire, first, sentences, leaves_by, act, begun, proceed, step, after}
use Rattle.rings.proofs.Places.{either, change_all, next_below, at_below, landing_below}
use Rattle.rings.proofs.Nodes.{Right, right_kept}
use Rattle.rings.proofs.Sound.{place, granted_place, sound}

abbrev pub Every : {A : Type 0} → (A → Type 0) → List A → Type 0
Every P [] = Unit {0}
Every P (x ∷ xs) = P x × Every P xs

-- Q of the traffic between steps, H with the frame f in hand, P of all that nodes send
pub record Steady (n : ℕ) (s : Setup) (P : Frame → Type 0) (Q : Traffic → Type 0) (H : Frame → Traffic → Type 0) : Type 0 where
  pub makes : (stamp k : ℕ) (e : Event) (x : Node) (w : Meaning) → k < n → stamp < 4294967296 → Right s k x → Every (λ o. P o.frame) (outs (setup_of x) (acts stamp e (opened x w)).sent)
  pub sends : (l : ℕ → Bool) (p : Port) (i : ℕ) (f : Frame) (t : Traffic) → i < n → P f → Q t → Q (send n l p i f t)
  pub takes : (p : Port) (i : ℕ) (f : Frame) (fs : List Frame) (t : Traffic) → i < n → t.queues p i ≡ f ∷ fs → Q t → H f (uncork p i t)
  pub joins : (p : Port) (i : ℕ) (f : Frame) (t : Traffic) → i < n → H f t → Q (join p i f t)
  pub drops : (f : Frame) (t : Traffic) → H f t → Q (drop f t)
  pub homes : (f : Frame) (t : Traffic) → H f t → Q (home f t)
  pub purges : (p : Port) (i : ℕ) (t : Traffic) → i < n → Q t → Q (purge p i t)

module _ (n : ℕ) (s : Setup) (c : Counts (settings_at s 0)) where
  -- all nodes are right, and the counter is of 32 bits
  abbrev pub RightRing : Ring → Type 0
  RightRing r = (r.expired < 4294967296) × ((k : ℕ) → k < n → Right s k (r.nodes k))

  tell_right : (k : ℕ) (e : Event) (r : Ring) → k < n → RightRing r → RightRing (tell n k e r)
  tell_right k e r h g =
      let x : Node = (acted k e r).machine in
      (g.0, λ j hj. change_all (λ i (a b d : Node). Right s i a) k j x x x r.nodes r.nodes r.nodes (right_kept s c r.expired k e (r.nodes k) (r.switches k) (g.1 k h)) (g.1 j hj))

  module _ (P : Frame → Type 0) (Q : Traffic → Type 0) (H : Frame → Traffic → Type 0) (S : Steady n s P Q H) where
    emits : (l : ℕ → Bool) (k : ℕ) (os : List Out) (t : Traffic) → k < n → Every (λ o. P o.frame) os → Q t → Q (emit n l k os t)
    emits l k [] t h all q = q
    emits l k (o ∷ os) t h all q = emits l k os (send n l o.port (link_at n k o.port) o.frame t) h all.1 (S.sends l o.port (link_at n k o.port) o.frame t (at_below n k o.port h) all.0 q)

    takens : (l : ℕ → Bool) (k : ℕ) (x : Node) (o : Option Port) (f : Frame) (t : Traffic) → k < n → H f t → Q (taken n l k x o f t)
    takens l k (Manager m) o f t h q = S.homes f t q
    takens l k (Client m) (Some p) f t h q = either Q (l (link_at n k p)) (join p (link_at n k p) f t) (drop f t) (λ _. S.joins p (link_at n k p) f t (at_below n k p h) q) (S.drops f t q)
    takens l k (Client m) None f t h q = S.drops f t q

    tells : (k : ℕ) (e : Event) (r : Ring) → k < n → RightRing r → Q r.flow → Q (tell n k e r).flow
    tells k e r h g q = emits r.links k (outs (setup_of (r.nodes k)) (acted k e r).sent) r.flow h (S.makes r.expired k e (r.nodes k) (r.switches k) h g.0 (g.1 k h)) q

    both_ends : (i : ℕ) (b : Bool) (r : Ring) → i < n → RightRing r → Q r.flow → Q (ends n i b r).flow
    both_ends i b r h g q = tells (next n i) (turns One b) (tell n i (turns Two b) r) (next_below n i h) (tell_right i (turns Two b) r h g) (tells i (turns Two b) r h g q)

    brought : (fs : List Frame) (p : Port) (i : ℕ) (r : Ring) → i < n → RightRing r → r.flow.queues p i ≡ fs → Q r.flow → Q (bring n fs p i r).flow
    brought [] p i r h g is q = q
    brought (f ∷ fs) p i r h g is q =
        let k : ℕ = landing n p i in
        let hk : k < n = landing_below n p i h in
        let x : Node = r.nodes k in
        let o : Option Port = passed_by (other p) f.octets x in
        let t : Traffic = uncork p i r.flow in
        tells k (hears (other p) f.octets) (with_flow (taken n r.links k x o f t) r) hk g (takens r.links k x o f t hk (S.takes p i f fs r.flow h is q))

    dropped : (fs : List Frame) (p : Port) (i : ℕ) (r : Ring) → i < n → r.flow.queues p i ≡ fs → Q r.flow → Q (let_go fs p i r).flow
    dropped [] p i r h is q = q
    dropped (f ∷ fs) p i r h is q = S.drops f (uncork p i r.flow) (S.takes p i f fs r.flow h is q)

    called : (x : Call) (r : Ring) → place x < n → RightRing r → Q r.flow → Q (act n x r).flow
    called (link_up i) r h g q = both_ends i true (with_link i true r) h g q
    called (link_down i) r h g q = both_ends i false (with_link i false (with_flow (purge One i (purge Two i r.flow)) r)) h g (S.purges One i (purge Two i r.flow) h (S.purges Two i r.flow h q))
    called (carry i d) r h g q = brought (r.flow.queues (leaves_by d) i) (leaves_by d) i r h g refl q
    called (lose i d) r h g q = dropped (r.flow.queues (leaves_by d) i) (leaves_by d) i r h refl q
    called (expire k t) r h g q = tells k (expires t) r h g q

    -- a call, from its opened counts on
    pub steady : (x : Call) (r : Ring) → RightRing r → ((k : ℕ) → Q (begun n k r).flow) → (k : ℕ) → first (sentences n x r) ≡ k → Q (proceed n k x (begun n k r)).flow
    steady x r g q zero e = called x (begun n zero r) (granted_place n x r e) g (q zero)
    steady x r g q (suc k) e = q (suc k)

  -- after every history the ring is right
  bring_expired : (fs : List Frame) (p : Port) (i : ℕ) (r : Ring) → (bring n fs p i r).expired ≡ r.expired
  bring_expired [] p i r = refl
  bring_expired (f ∷ fs) p i r = refl

  lose_expired : (fs : List Frame) (p : Port) (i : ℕ) (r : Ring) → (let_go fs p i r).expired ≡ r.expired
  lose_expired [] p i r = refl
  lose_expired (f ∷ fs) p i r = refl

  act_below : (x : Call) (r : Ring) → r.expired < 4294967296 → (act n x r).expired < 4294967296
  act_below (link_up i) r h = h
  act_below (link_down i) r h = h
  act_below (carry i d) r h = rw (bring_expired (r.flow.queues (leaves_by d) i) (leaves_by d) i r) h
  act_below (lose i d) r h = rw (lose_expired (r.flow.queues (leaves_by d) i) (leaves_by d) i r) h
  act_below (expire k t) r h = omega arith

  step_below : (x : Call) (r : Ring) → r.expired < 4294967296 → (step n x r).expired < 4294967296
  step_below x r h = go (first (sentences n x r))
    where
      go : (k : ℕ) → (proceed n k x (begun n k r)).expired < 4294967296
      go zero = act_below x (begun n zero r) h
      go (suc k) = h

  below : (w : ℕ → Meaning) (h : List Call) → (after n s w h).expired < 4294967296
  below w [] = omega arith
  below w (x ∷ h) = step_below x (after n s w h) (below w h)

  pub right : (w : ℕ → Meaning) (h : List Call) → 2 ≤ n → RightRing (after n s w h)
  right w h h2 = (below w h, λ k hk. (sound n s c w h h2 k hk).0)
