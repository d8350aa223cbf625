-- An announcement counts down.
use Rattle.std.proofs.Common.{◌≡◌, ℕ, zero, suc, ◌+◌, ◌*◌, ◌%◌, List, ◌++◌, Some, sym, refl, ◌∙◌, subst, append_assoc, arith}
use Rattle.std.proofs.lemmas.Bool.Decides.{nat_tests}
use Rattle.switch.specs.Meanings.{Meaning}
use Rattle.event.specs.Events.{expires}
use Rattle.outbox.specs.declared.message.Message.TheVariants.{TopologyChange}
use Rattle.outbox.specs.Boxes.{Sent}
use Rattle.manager.specs.Machines.{Machine, with_repeats, with_topology, numbered}
use Rattle.manager.specs.Rows.{Row, acts, pair}
use Rattle.node_laws.specs.Announcements.{counting, countdown, CountedDown, Countdown, WorkedAnnouncement}

-- the two frames of a run-out with k repeats left
abbrev told : ℕ → Machine → List Sent
told k m = pair (TopologyChange (k * m.setup.topology)) (TopologyChange (k * m.setup.topology)) m.sequence

tick : (stamp k x : ℕ) (m : Machine) (w : Meaning) (fs : List Sent) → acts stamp (expires 1) (record { machine = with_repeats (suc k) (with_topology (Some x) m); switch = w; sent = fs }) ≡ record { machine = with_repeats k (with_topology (Some m.setup.topology) (numbered m)); switch = w; sent = fs ++ told (suc k) m }
tick stamp k x m w fs = grind (arith, nat_tests)

pub counts_down : Countdown
counts_down stamp zero x m w fs = record { sends = grind arith; clears = refl; stops = refl; again = refl }
counts_down stamp (suc k) x m w fs =
    let n = counts_down stamp k m.setup.topology (numbered m) w (fs ++ told (suc k) m) in
    subst (λ (r : Row). CountedDown (suc k) m w fs (counting stamp (suc k) r)) (sym (tick stamp k x m w fs))
    (record { sends = n.sends ∙ append_assoc fs (told (suc k) m) (countdown k m.setup.topology ((m.sequence + 1) % 65536)); clears = n.clears; stops = n.stops; again = n.again })

pub worked_announcement : WorkedAnnouncement
worked_announcement w = (refl, refl, refl, refl)
