-- A loop stands only where the manager is ring-open, and no link up starts one.
use Rattle.std.proofs.Common.{◌≡◌, ℕ, zero, suc, ◌<◌, ◌≤◌, Bool, true, false, ◌&&◌, sym, refl, ◌∙◌, subst, arith}
use Rattle.std.proofs.lemmas.Bool.{both_ways}
use Rattle.std.proofs.lemmas.Bool.Decides.{nat_tests}
use Rattle.switch.specs.declared.port.Port.TheVariants.{One, Two}
use Rattle.switch.specs.Ports.{is_forwarding}
use Rattle.switch.specs.Meanings.{Meaning}
use Rattle.settings.specs.Setups.{Setup}
use Rattle.settings.proofs.Limits.{Counts}
use Rattle.event.specs.Events.{turns}
use Rattle.outbox.specs.Rows.{opened}
use Rattle.client.specs.Machines as client-machine
use Rattle.client.specs.Rows as client-rows
use Rattle.manager.specs.Machines as manager-machine
use Rattle.manager.specs.Rows as manager-rows
use Rattle.node.specs.Nodes.{acts}
use Rattle.node.specs.declared.Node.{Node}
use Rattle.node.specs.declared.Node.TheVariants.{Client, Manager}
use Rattle.node_laws.specs.Links.{Both}
use Rattle.node_laws.specs.Clients.{ClientFit}
use Rattle.node_laws.specs.Managers.{ManagerFit}
use Rattle.node_laws.proofs.Managers.{both_forward_lem}
use Rattle.rings.specs.Places.{all_to, next, back}
use Rattle.rings.specs.Rings.{Ring, settings_at, with_link, acted, tell, ends}
use Rattle.rings.specs.Calls.{link_up, first, sentences, begun, proceed, step, after}
use Rattle.rings.specs.Floods.{passing, loop}
use Rattle.rings.specs.Laws.{open_in, ring_open, LoopIsOpen, LinkUpStartsNone}
use Rattle.rings.proofs.Places.{change_here, change_there, next_back, back_below}
use Rattle.rings.proofs.Nodes.{NodeFit}
use Rattle.rings.proofs.Sound.{links_of, Sound, sound}
use Rattle.rings.proofs.Flow.{counts_of}

pub all_at : (n : ℕ) (f : ℕ → Bool) (i : ℕ) → i < n → all_to n f ≡ true → f i ≡ true
all_at zero f i h e = grind arith
all_at (suc n) f i h e = grind (arith, nat_tests, all_at n f i)

pub never : (b : Bool) → (b ≡ true → ⊥) → b ≡ false
never true h = absurd (h refl)
never false h = refl

abbrev both_forward : Meaning → Bool
both_forward w = is_forwarding w.first && is_forwarding w.second

-- the manager is ring-open exactly while both its ports forward
open_by : (s : Setup) (x : Node) (w : Meaning) (l : Both Bool) → NodeFit s 0 x w l → both_forward w ≡ open_in x
open_by s (Manager m) w l f = both_forward_lem m w l f.1
open_by s (Client m) w l f = absurd f.0

-- a node that is told of a new link at port 2 does not forward by both ports
manager_blocks : (stamp : ℕ) (m : manager-machine.Machine) (w : Meaning) (l : Both Bool) → ManagerFit m w l → l.two ≡ false → both_forward (manager-rows.acts stamp (turns Two true) (opened m w)).switch ≡ false
manager_blocks stamp m w l fit e = grind arith

client_blocks : (m : client-machine.Machine) (w : Meaning) (l : Both Bool) → ClientFit m w l → l.two ≡ false → both_forward (client-rows.acts (turns Two true) (opened m w)).switch ≡ false
client_blocks m w l fit e = grind arith

blocks : (s : Setup) (stamp k : ℕ) (x : Node) (w : Meaning) (l : Both Bool) → NodeFit s k x w l → l.two ≡ false → both_forward (acts stamp (turns Two true) (opened x w)).switch ≡ false
blocks s stamp k (Manager m) w l f e = manager_blocks stamp m w l f.1 e
blocks s stamp k (Client m) w l f e = client_blocks m w l f.1 e

module _ (n : ℕ) where
  loop_ports : (l : ℕ → Bool) (w : ℕ → Meaning) → 2 ≤ n → all_to n (passing n l w) ≡ true → (k : ℕ) → k < n → both_forward (w k) ≡ true
  loop_ports l w h2 e k h =
      let here : passing n l w k ≡ true = all_at n (passing n l w) k h e in
      let there : passing n l w (back n k) ≡ true = all_at n (passing n l w) (back n k) (back_below n k h) e in
      let same : next n (back n k) ≡ k = next_back n k h2 h in
      grind arith

  module _ (s : Setup) (c : Counts (settings_at s 0)) where
    pub loop_open : (r : Ring) → 2 ≤ n → Sound n s c r → loop n r ≡ true → ring_open r ≡ true
    loop_open r h2 f e = sym (open_by s (r.nodes 0) (r.switches 0) (links_of n r.links 0) (f 0 (omega arith))) ∙ loop_ports r.links r.switches h2 e 0 (omega arith)

    -- after an accepted link up of link i, node i has a port that does not forward
    up_blocks : (i : ℕ) (r : Ring) → 2 ≤ n → i < n → Sound n s c r → r.links i ≡ false → both_forward ((ends n i true (with_link i true r)).switches i) ≡ false
    up_blocks i r h2 h f down =
        let elsewhere : next n i ≡ i → ⊥ = grind (arith, nat_tests) in
        let q : Ring = tell n i (turns Two true) (with_link i true r) in
        let far : Meaning = (acted (next n i) (turns One true) q).switch in
        let near : Meaning = (acted i (turns Two true) (with_link i true r)).switch in
        subst (λ (x : Meaning). both_forward x ≡ false) (sym (change_there (next n i) i far q.switches elsewhere ∙ change_here i near r.switches))
        (blocks s r.expired i (r.nodes i) (r.switches i) (links_of n r.links i) (f i h) down)

    -- an accepted link up leaves no loop; a refused one leaves the ring
    up_no_loop : (i : ℕ) (r : Ring) → 2 ≤ n → Sound n s c r → loop n r ≡ false → loop n (step n (link_up i) r) ≡ false
    up_no_loop i r h2 f none = go (first (sentences n (link_up i) r)) refl
      where
        accepted : first (sentences n (link_up i) r) ≡ 0 → (i < n) × (r.links i ≡ false)
        accepted e = grind (arith, nat_tests)

        go : (k : ℕ) → first (sentences n (link_up i) r) ≡ k → loop n (proceed n k (link_up i) (begun n k r)) ≡ false
        go zero e =
            let q : Ring = ends n i true (with_link i true (begun n zero r)) in
            let shut : both_forward (q.switches i) ≡ false = up_blocks i (begun n zero r) h2 (accepted e).0 f (accepted e).1 in
            never (loop n q) (λ looped. both_ways _ shut (loop_ports q.links q.switches h2 looped i (accepted e).0))
        go (suc k) e = none

pub loop_is_open : LoopIsOpen
loop_is_open n s w lim h e = let c = counts_of s n lim in loop_open n s c (after n s w h) lim.least (sound n s c w h lim.least) e

pub link_up_starts_none : LinkUpStartsNone
link_up_starts_none n s w lim i h none = let c = counts_of s n lim in up_no_loop n s c i (after n s w h) lim.least (sound n s c w h lim.least) none
