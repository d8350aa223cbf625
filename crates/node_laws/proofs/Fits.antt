-- What holds of a node at every point of every history, from one event to the next.
use Rattle.std.proofs.Common.{◌≡◌, ℕ, ◌≤◌, Bool, List, [], ◌∷◌, length, sym, refl, ◌∙◌, subst, arith}
use Rattle.switch.specs.Meanings.{Meaning}
use Rattle.settings.specs.Setups.{Setup}
use Rattle.settings.proofs.Limits.{counts_within}
use Rattle.event.specs.Events.{Event}
use Rattle.outbox.specs.Rows.{opened}
use Rattle.client.specs.Machines as client-machine
use Rattle.client.specs.Rows as client-rows
use Rattle.manager.specs.Machines as manager-machine
use Rattle.manager.specs.Rows as manager-rows
use Rattle.node.specs.declared.Role.{Role}
use Rattle.node.specs.declared.Role.TheVariants as role
use Rattle.node.specs.Nodes.{acts}
use Rattle.node.specs.declared.Node.{Node}
use Rattle.node.specs.declared.Node.TheVariants.{Client, Manager}
use Rattle.node_laws.specs.Links.{Both, told}
use Rattle.node_laws.specs.Histories.{Happened, after, links_after}
use Rattle.node_laws.specs.Managers.{Counted}
use Rattle.node_laws.specs.Tables.{Fit, AlwaysFit, Opens, AlwaysOpens, InCount, AlwaysInCount, FourFrames}
use Rattle.node_laws.proofs.Clients.{client_kept}
use Rattle.node_laws.proofs.Managers.{manager_kept, both_forward_lem, counted_kept, setup_kept}

pub kept : (stamp : ℕ) (e : Event) (n : Node) (w : Meaning) (l : Both Bool) → Fit n w l → Fit (acts stamp e (opened n w)).machine (acts stamp e (opened n w)).switch (told e l)
kept stamp e (Client m) w l fit = client_kept m w l fit e
kept stamp e (Manager m) w l fit = manager_kept stamp e m w l fit

pub always_fit : AlwaysFit
always_fit role.Client s w [] = record { links = refl; states = refl; up = refl; down = refl; few = omega arith }
always_fit role.Manager s w [] = record { links = refl; states = refl; tests = refl }
always_fit r s w (e ∷ h) = kept e.stamp e.event (after r s w h).machine (after r s w h).switch (links_after h) (always_fit r s w h)

opens : (n : Node) (w : Meaning) (l : Both Bool) → Fit n w l → Opens n w
opens (Client m) w l fit = tt
opens (Manager m) w l fit = both_forward_lem m w l fit

pub always_opens : AlwaysOpens
always_opens r s w h = opens (after r s w h).machine (after r s w h).switch (links_after h) (always_fit r s w h)

-- a manager keeps its settings and stays within its counts
abbrev Steady : Setup → Node → Type 0
Steady s (Client m) = Unit {0}
Steady s (Manager m) = (m.setup ≡ s) × Counted m

steady : (stamp : ℕ) (e : Event) (s : Setup) (n : Node) (w : Meaning) → 2 ≤ s.test_count → 1 ≤ s.topology_count → Steady s n → Steady s (acts stamp e (opened n w)).machine
steady stamp e s (Client m) w h k c = tt
steady stamp e s (Manager m) w h k c =
    let t : 2 ≤ m.setup.test_count = subst (λ (u : Setup). 2 ≤ u.test_count) (sym c.0) h in
    let o : 1 ≤ m.setup.topology_count = subst (λ (u : Setup). 1 ≤ u.topology_count) (sym c.0) k in
    (setup_kept stamp e m w ∙ c.0, counted_kept stamp e m w t o c.1)

always_steady : (r : Role) (s : Setup) (w : Meaning) (h : List Happened) → 2 ≤ s.test_count → 1 ≤ s.topology_count → Steady s (after r s w h).machine
always_steady role.Client s w [] t o = tt
always_steady role.Manager s w [] t o = (refl, record { misses = omega arith; repeats = omega arith; rests = λ _. refl })
always_steady r s w (e ∷ h) t o = steady e.stamp e.event s (after r s w h).machine (after r s w h).switch t o (always_steady r s w h t o)

counts : (s : Setup) (n : Node) → Steady s n → InCount n
counts s (Client m) c = tt
counts s (Manager m) c = c.1

pub always_in_count : AlwaysInCount
always_in_count r s w h v =
    let n = counts_within s v in
    counts s (after r s w h).machine (always_steady r s w h n.tests.0 n.changes.0)

client_four : (e : Event) (m : client-machine.Machine) (w : Meaning) → length (client-rows.acts e (opened m w)).sent ≤ 4
client_four e m w = grind arith

manager_four : (stamp : ℕ) (e : Event) (m : manager-machine.Machine) (w : Meaning) → length (manager-rows.acts stamp e (opened m w)).sent ≤ 4
manager_four stamp e m w = grind arith

pub four_frames : FourFrames
four_frames stamp e (Client m) w = client_four e m w
four_frames stamp e (Manager m) w = manager_four stamp e m w
