-- What every node of a ring is, whatever it was told: node 0 the manager and all others clients, with their settings.
use Rattle.std.proofs.Common.{ℕ, zero, suc, Bool, refl, arith}
use Rattle.switch.specs.Meanings.{Meaning}
use Rattle.settings.specs.Setups.{Setup}
use Rattle.settings.proofs.Limits.{Counts}
use Rattle.event.specs.Events.{Event}
use Rattle.outbox.specs.Rows.{opened}
use Rattle.node.specs.Nodes.{acts, started}
use Rattle.node.specs.declared.Node.{Node}
use Rattle.node.specs.declared.Node.TheVariants.{Client, Manager}
use Rattle.node_laws.specs.Links.{Both, told}
use Rattle.node_laws.specs.Tables.{Fit}
use Rattle.node_laws.proofs.Fits.{kept}
use Rattle.node_laws.proofs.Says.{ManagerSized, ClientSized, manager_sized, client_sized}
use Rattle.rings.specs.Rings.{settings_at, seat}

-- node k is what it is at its place, and keeps its settings
abbrev pub Right : Setup → ℕ → Node → Type 0
Right s zero (Manager m) = ManagerSized (settings_at s 0) m
Right s zero (Client m) = ⊥
Right s (suc k) (Client m) = ClientSized (settings_at s (suc k)) m
Right s (suc k) (Manager m) = ⊥

pub right_kept : (s : Setup) (c : Counts (settings_at s 0)) (stamp k : ℕ) (e : Event) (x : Node) (w : Meaning) → Right s k x → Right s k (acts stamp e (opened x w)).machine
right_kept s c stamp zero e (Manager m) w h = manager_sized stamp e (settings_at s 0) m w c.changes.1 h
right_kept s c stamp zero e (Client m) w h = absurd h
right_kept s c stamp (suc k) e (Client m) w h = client_sized e (settings_at s (suc k)) m w c.links.1 h
right_kept s c stamp (suc k) e (Manager m) w h = absurd h

pub right_started : (s : Setup) (c : Counts (settings_at s 0)) (k : ℕ) → Right s k (started (seat k) (settings_at s k))
right_started s c zero = record { its = refl; repeats = omega (arith, c.changes.1); transitions = omega arith; sequence = omega arith }
right_started s c (suc k) = record { its = refl; left = c.links.1; sequence = omega arith }

-- and its state agrees with its switch and with the links l that it was told of
abbrev pub NodeFit : Setup → ℕ → Node → Meaning → Both Bool → Type 0
NodeFit s k x w l = Right s k x × Fit x w l

pub fit_kept : (s : Setup) (c : Counts (settings_at s 0)) (stamp k : ℕ) (e : Event) (x : Node) (w : Meaning) (l : Both Bool) → NodeFit s k x w l → NodeFit s k (acts stamp e (opened x w)).machine (acts stamp e (opened x w)).switch (told e l)
fit_kept s c stamp k e x w l h = (right_kept s c stamp k e x w h.0, kept stamp e x w l h.1)
