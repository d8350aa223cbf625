-- A flood finds a loop, and in a settled ring reaches every other node once exactly if the manager is not ring-open.
use Rattle.std.proofs.Common.{◌≡◌, ℕ, zero, suc, ◌-◌, ◌<◌, ◌≤◌, Bool, true, false, ◌&&◌, ◌⊎◌, None, refl, inl, inr, arith}
use Rattle.std.proofs.lemmas.Bool.Decides.{nat_tests}
use Rattle.switch.specs.Ports.{is_forwarding}
use Rattle.switch.specs.Meanings.{Meaning}
use Rattle.settings.specs.Setups.{Setup}
use Rattle.settings.proofs.Limits.{Counts}
use Rattle.event.specs.declared.Timer.TheVariants as timer
use Rattle.client.specs.Machines as client-machine
use Rattle.manager.specs.Machines as manager-machine
use Rattle.node.specs.Nodes.{timer_in}
use Rattle.node.specs.declared.Node.{Node}
use Rattle.node.specs.declared.Node.TheVariants.{Client, Manager}
use Rattle.node_laws.specs.Links.{Both}
use Rattle.node_laws.specs.Clients.{ClientFit}
use Rattle.node_laws.specs.Managers.{ManagerFit, is_open}
use Rattle.rings.specs.Places.{next, turn}
use Rattle.rings.specs.Rings.{Ring, settings_at}
use Rattle.rings.specs.Calls.{after}
use Rattle.rings.specs.Floods.{passes, loop, flood}
use Rattle.rings.specs.Laws.{Settled, EachOnce, open_in, ring_open, TwiceIsLoop, OnceIsClosed}
use Rattle.rings.proofs.Places.{next_below}
use Rattle.rings.proofs.Nodes.{NodeFit}
use Rattle.rings.proofs.Sound.{links_of, Sound, sound}
use Rattle.rings.proofs.Flow.{counts_of}
use Rattle.rings.proofs.Loops.{never}
use Rattle.rings.proofs.Walks.{loop_twice, twice_loop, gap_once, all_all, turn_below}

pub twice_is_loop : TwiceIsLoop
twice_is_loop n s w lim h k k< =
    let g : ℕ → Bool = passes n (after n s w h) in
    (λ e. (turn n k 1, loop_twice n k k< g lim.least e), λ j e. twice_loop n k k< g j e)

-- a client with both links up and no link-up timer forwards by both ports
client_settled : (m : client-machine.Machine) (w : Meaning) (l : Both Bool) → ClientFit m w l → l.one ≡ true → l.two ≡ true → m.up_timer ≡ None → (is_forwarding w.first ≡ true) × (is_forwarding w.second ≡ true)
client_settled m w l fit a b idle = grind arith

other_settled : (s : Setup) (k : ℕ) (x : Node) (w : Meaning) (l : Both Bool) → NodeFit s (suc k) x w l → l.one ≡ true → l.two ≡ true → timer_in x timer.LinkUp ≡ None → (is_forwarding w.first ≡ true) × (is_forwarding w.second ≡ true)
other_settled s k (Client m) w l f a b idle = client_settled m w l f.1 a b idle
other_settled s k (Manager m) w l f a b idle = absurd f.0

-- a manager with both links up that is not ring-open forwards by one port
abbrev OneOf : Meaning → Type 0
OneOf w = ((is_forwarding w.first ≡ true) × (is_forwarding w.second ≡ false)) ⊎ ((is_forwarding w.first ≡ false) × (is_forwarding w.second ≡ true))

manager_closed : (m : manager-machine.Machine) (w : Meaning) (l : Both Bool) → ManagerFit m w l → l.one ≡ true → l.two ≡ true → is_open m.state ≡ false → OneOf w
manager_closed m w l fit a b shut = grind arith

manager_opened : (m : manager-machine.Machine) (w : Meaning) (l : Both Bool) → ManagerFit m w l → is_open m.state ≡ true → (is_forwarding w.first ≡ true) × (is_forwarding w.second ≡ true)
manager_opened m w l fit e = grind arith

first_closed : (s : Setup) (x : Node) (w : Meaning) (l : Both Bool) → NodeFit s 0 x w l → l.one ≡ true → l.two ≡ true → open_in x ≡ false → OneOf w
first_closed s (Manager m) w l f a b shut = manager_closed m w l f.1 a b shut
first_closed s (Client m) w l f a b shut = absurd f.0

first_opened : (s : Setup) (x : Node) (w : Meaning) (l : Both Bool) → NodeFit s 0 x w l → open_in x ≡ true → (is_forwarding w.first ≡ true) × (is_forwarding w.second ≡ true)
first_opened s (Manager m) w l f e = manager_opened m w l f.1 e
first_opened s (Client m) w l f e = absurd f.0

turn_moves : (n k : ℕ) → k < n → 2 ≤ n → turn n k 1 ≡ k → ⊥
turn_moves n k k< h2 e = grind (arith, nat_tests)

module _ (n : ℕ) (s : Setup) (c : Counts (settings_at s 0)) (r : Ring) (h2 : 2 ≤ n) (f : Sound n s c r) (set : Settled n r) where
  client_on : (k : ℕ) → suc k < n → (is_forwarding (r.switches (suc k)).first ≡ true) × (is_forwarding (r.switches (suc k)).second ≡ true)
  client_on k h = other_settled s k (r.nodes (suc k)) (r.switches (suc k)) (links_of n r.links (suc k)) (f (suc k) h) (set.up k (omega arith)) (set.up (suc k) h) (set.idle (suc k) h)

  ends_on : (i : ℕ) → r.links i ≡ true → is_forwarding (r.switches i).second ≡ true → is_forwarding (r.switches (next n i)).first ≡ true → passes n r i ≡ true
  ends_on i a b d = rw (a, b, d)

  right_on : (i : ℕ) → i < n → (i ≡ 0 → is_forwarding (r.switches 0).second ≡ true) → is_forwarding (r.switches i).second ≡ true
  right_on zero h m = m refl
  right_on (suc i) h m = (client_on i h).1

  left_on : (i : ℕ) → i < n → (i ≡ 0 → is_forwarding (r.switches 0).first ≡ true) → is_forwarding (r.switches i).first ≡ true
  left_on zero h m = m refl
  left_on (suc i) h m = (client_on i h).0

  open_loops : ring_open r ≡ true → loop n r ≡ true
  open_loops e =
      let m = first_opened s (r.nodes 0) (r.switches 0) (links_of n r.links 0) (f 0 (omega arith)) e in
      all_all n (passes n r) (λ i h. ends_on i (set.up i h) (right_on i h (λ _. m.1)) (left_on (next n i) (next_below n i h) (λ _. m.0)))

  -- the one link that does not pass is the one at the manager's blocked port
  right_gap : is_forwarding (r.switches 0).second ≡ false → passes n r 0 ≡ false
  right_gap e = off (r.links 0) (is_forwarding (r.switches 0).second) (is_forwarding (r.switches (next n 0)).first) e
    where
      off : (a b d : Bool) → b ≡ false → (a && (b && d)) ≡ false
      off a b d e = grind arith

  left_gap : is_forwarding (r.switches 0).first ≡ false → passes n r (n - 1) ≡ false
  left_gap e =
      let round : next n (n - 1) ≡ 0 = grind (arith, nat_tests) in
      rw round (off (r.links (n - 1)) (is_forwarding (r.switches (n - 1)).second) (is_forwarding (r.switches 0).first) e)
    where
      off : (a b d : Bool) → d ≡ false → (a && (b && d)) ≡ false
      off a b d e = grind arith

  closed_once : (k : ℕ) → k < n → ring_open r ≡ false → EachOnce n k (flood n r k)
  closed_once k k< shut j hj ne = elim (first_closed s (r.nodes 0) (r.switches 0) (links_of n r.links 0) (f 0 (omega arith)) (set.up (n - 1) (omega arith)) (set.up 0 (omega arith)) shut) [
    | inl m ↦ gap_once n k k< (passes n r) 0 j (omega arith) (right_gap m.1) (λ i h away. ends_on i (set.up i h) (right_on i h (λ is. absurd (away is))) (left_on (next n i) (next_below n i h) (λ _. m.0))) hj ne
    | inr m ↦ gap_once n k k< (passes n r) (n - 1) j (omega arith) (left_gap m.0) (λ i h away. ends_on i (set.up i h) (right_on i h (λ _. m.1)) (left_on (next n i) (next_below n i h) (λ is. absurd (away (last i h is))))) hj ne
  ]
    where
      last : (i : ℕ) → i < n → next n i ≡ 0 → i ≡ n - 1
      last i h e = grind (arith, nat_tests)

pub once_is_closed : OnceIsClosed
once_is_closed n s w lim h k k< set =
    let c = counts_of s n lim in
    let r : Ring = after n s w h in
    let f = sound n s c w h lim.least in (
      λ shut. closed_once n s c r lim.least f set k k< shut,
      λ once. never (ring_open r) (λ e. omega (arith, once (turn n k 1) (turn_below n k k< 1 (omega (arith, lim.least))) (turn_moves n k k< lim.least), loop_twice n k k< (passes n r) lim.least (open_loops n s c r lim.least f set e))),
    )
