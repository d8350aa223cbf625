-- All that a node sends fits its fields, and so reads back.
use Rattle.std.proofs.Common.{◌≡◌, ℕ, ◌+◌, ◌-◌, ◌*◌, ◌%◌, ◌<◌, ◌≤◌, true, List, [], ◌∷◌, sym, refl, ap, ◌∙◌, append-nil, arith}
use Rattle.std.proofs.lemmas.Nat.{mul-le}
use Rattle.layout.specs.Elements.{in_values}
use Rattle.layout.specs.Reading.{reading}
use Rattle.frame.specs.declared.field.PortRole.TheVariants.{Primary, Secondary}
use Rattle.frame.specs.declared.field.RingState.TheVariants.{Open, Closed}
use Rattle.kind.specs.Kinds.{span_of}
use Rattle.writer.specs.Sent.{body_shown, FitsBody}
use Rattle.frame.specs.Shown.{content_kind}
use Rattle.writer.proofs.ReadBack.{read_back}
use Rattle.switch.specs.Meanings.{Meaning}
use Rattle.settings.specs.Setups.{Setup, Within}
use Rattle.settings.proofs.Limits.{Times, Counts, times_within, counts_within}
use Rattle.event.specs.Events.{Event}
use Rattle.outbox.specs.declared.message.Message.{Message}
use Rattle.outbox.specs.declared.message.Message.TheVariants.{Test, TopologyChange, LinkDown, LinkUp}
use Rattle.outbox.specs.Messages.{octets_of, content_of}
use Rattle.outbox.specs.Boxes.{Sent}
use Rattle.outbox.specs.Rows.{opened}
use Rattle.client.specs.Machines as client-machine
use Rattle.client.specs.Rows as client-rows
use Rattle.manager.specs.Machines as manager-machine
use Rattle.manager.specs.Rows as manager-rows
use Rattle.node.specs.declared.Role.{Role}
use Rattle.node.specs.declared.Role.TheVariants as role
use Rattle.node.specs.Nodes.{acts}
use Rattle.node.specs.declared.Node.{Node}
use Rattle.node.specs.declared.Node.TheVariants.{Client, Manager}
use Rattle.node_laws.specs.Histories.{Happened, after}
use Rattle.node_laws.specs.Saying.{ReadsBack, Every, AlwaysReadsBack}

-- a message whose numbers fit their octets
abbrev pub Fits : Message → Type 0
Fits (Test r c n t) = (n < 65536) × (t < 4294967296)
Fits (TopologyChange i) = i < 65536
Fits (LinkDown i) = i < 65536
Fits (LinkUp i) = i < 65536

abbrev pub Fitting : Sent → Type 0
Fitting f = Fits f.message × (f.sequence < 65536)

fits_body : (s : Setup) (m : Message) → Within s → Fits m → FitsBody (content_of s m)
fits_body s (Test r c n t) g f = (g.address, g.priority, f.0, f.1)
fits_body s (TopologyChange i) g f = (g.address, g.priority, f)
fits_body s (LinkDown i) g f = (g.address, f)
fits_body s (LinkUp i) g f = (g.address, f)

in_values_lem : (s : Setup) (m : Message) → s.priority % 0x1000 ≡ 0 → in_values (body_shown (content_of s m)) ≡ true
in_values_lem s (Test Primary Open n t) e = rw e refl
in_values_lem s (Test Primary Closed n t) e = rw e refl
in_values_lem s (Test Secondary Open n t) e = rw e refl
in_values_lem s (Test Secondary Closed n t) e = rw e refl
in_values_lem s (TopologyChange i) e = rw e refl
in_values_lem s (LinkDown i) e = refl
in_values_lem s (LinkUp i) e = refl

short : (s : Setup) (m : Message) → 14 + span_of (content_kind (content_of s m)) + 0 ≤ 60
short s (Test r c n t) = omega arith
short s (TopologyChange i) = omega arith
short s (LinkDown i) = omega arith
short s (LinkUp i) = omega arith

pub said_back : (s : Setup) (f : Sent) → Within s → Fitting f → ReadsBack s f
unfolding octets_of
said_back s f g a =
    let e = (counts_within s g.limits).multiple in
    ap reading (sym (append-nil (octets_of s f.message f.sequence))) ∙ read_back s.address (content_of s f.message) f.sequence s.domain 0 g.address (fits_body s f.message g a.0) a.1 g.domain (in_values_lem s f.message e) (short s f.message)

all_back : (s : Setup) (fs : List Sent) → Within s → Every Fitting fs → Every (ReadsBack s) fs
all_back s [] g a = tt
all_back s (f ∷ fs) g a = (said_back s f g a.0, all_back s fs g a.1)

times_fit : (n t : ℕ) → n ≤ 10 → t ≤ 1000 → n * t < 65536
times_fit n t h k = omega (arith, mul-le n t 10 1000 h k)

-- what a manager keeps fits
pub record ManagerSized (s : Setup) (m : manager-machine.Machine) : Type 0 where
  pub its : m.setup ≡ s
  pub repeats : m.repeats ≤ 10
  pub transitions : m.transitions < 65536
  pub sequence : m.sequence < 65536

pub manager_sized : (stamp : ℕ) (e : Event) (s : Setup) (m : manager-machine.Machine) (w : Meaning) → s.topology_count ≤ 10 → ManagerSized s m → ManagerSized s (manager-rows.acts stamp e (opened m w)).machine
manager_sized stamp e s m w g z = grind arith

manager_fits : (stamp : ℕ) (e : Event) (s : Setup) (m : manager-machine.Machine) (w : Meaning) → stamp < 4294967296 → ManagerSized s m → s.topology_count * s.topology < 65536 → m.repeats * s.topology < 65536 → Every Fitting (manager-rows.acts stamp e (opened m w)).sent
manager_fits stamp e s m w h z a b = grind arith

-- what a client keeps fits
pub record ClientSized (s : Setup) (m : client-machine.Machine) : Type 0 where
  pub its : m.setup ≡ s
  pub left : m.left ≤ 10
  pub sequence : m.sequence < 65536

pub client_sized : (e : Event) (s : Setup) (m : client-machine.Machine) (w : Meaning) → s.link_count ≤ 10 → ClientSized s m → ClientSized s (client-rows.acts e (opened m w)).machine
client_sized e s m w g z = grind arith

-- a client tells a count times an interval: all that can be left, or one less than is left
record Short (s : Setup) (m : client-machine.Machine) : Type 0 where
  all_up : s.link_count * s.link_up < 65536
  all_down : s.link_count * s.link_down < 65536
  less_up : (m.left - 1) * s.link_up < 65536
  less_down : (m.left - 1) * s.link_down < 65536

client_fits : (e : Event) (s : Setup) (m : client-machine.Machine) (w : Meaning) → ClientSized s m → Short s m → Every Fitting (client-rows.acts e (opened m w)).sent
client_fits e s m w z t = grind arith

-- for both
abbrev pub Sized : Setup → Node → Type 0
Sized s (Client m) = ClientSized s m
Sized s (Manager m) = ManagerSized s m

pub sized : (stamp : ℕ) (e : Event) (s : Setup) (n : Node) (w : Meaning) → Counts s → Sized s n → Sized s (acts stamp e (opened n w)).machine
sized stamp e s (Client m) w c z = client_sized e s m w c.links.1 z
sized stamp e s (Manager m) w c z = manager_sized stamp e s m w c.changes.1 z

pub fitting : (stamp : ℕ) (e : Event) (s : Setup) (n : Node) (w : Meaning) → stamp < 4294967296 → Times s → Counts s → Sized s n → Every Fitting (acts stamp e (opened n w)).sent
fitting stamp e s (Client m) w h t c z =
    let l : m.left - 1 ≤ 10 = omega (arith, z.left) in
    client_fits e s m w z (record { all_up = times_fit _ _ c.links.1 t.up.1; all_down = times_fit _ _ c.links.1 t.down.1; less_up = times_fit _ _ l t.up.1; less_down = times_fit _ _ l t.down.1 })
fitting stamp e s (Manager m) w h t c z =
    manager_fits stamp e s m w h z (times_fit _ _ c.changes.1 t.topology.1) (times_fit _ _ z.repeats t.topology.1)

always_sized : (r : Role) (s : Setup) (w : Meaning) (h : List Happened) → Counts s → Sized s (after r s w h).machine
always_sized role.Client s w [] c = record { its = refl; left = c.links.1; sequence = omega arith }
always_sized role.Manager s w [] c = record { its = refl; repeats = omega (arith, c.changes.1); transitions = omega arith; sequence = omega arith }
always_sized r s w (e ∷ h) c = sized e.stamp e.event s (after r s w h).machine (after r s w h).switch c (always_sized r s w h c)

nothing_sent : (r : Role) (s : Setup) (w : Meaning) → Every (ReadsBack s) (after r s w []).sent
nothing_sent r s w = tt

pub always_reads_back : AlwaysReadsBack
always_reads_back r s w [] g t = nothing_sent r s w
always_reads_back r s w (e ∷ h) g t =
    let c = counts_within s g.limits in
    all_back s _ g (fitting e.stamp e.event s (after r s w h).machine (after r s w h).switch t.0 (times_within s g.limits) c (always_sized r s w h c))
