-- The ring: links, nodes with their switches, and what waits.
use Rattle.std.specs.Prelude.{ℕ, zero, suc, ◌+◌, ◌%◌, Bool, false, List, [], ◌∷◌, replicate, Some, None, Option}
use Rattle.switch.specs.declared.port.Port.{Port}
use Rattle.switch.specs.declared.port.Port.TheVariants.{One, Two}
use Rattle.switch.specs.Ports.{other}
use Rattle.switch.specs.Meanings.{Meaning}
use Rattle.settings.specs.Setups.{Setup}
use Rattle.event.specs.Events.{Event, turns, hears}
use Rattle.outbox.specs.Messages.{octets_of}
use Rattle.outbox.specs.Boxes.{Sent}
use Rattle.outbox.specs.Rows.{Row, opened, quiet}
use Rattle.node.specs.declared.Role.{Role}
use Rattle.node.specs.declared.Role.TheVariants as role
use Rattle.node.specs.Nodes.{setup_of, started, acts, passed_by}
use Rattle.node.specs.declared.Node.{Node}
use Rattle.node.specs.declared.Node.TheVariants.{Client, Manager}
use Rattle.rings.specs.Places.{change, next, link_at, landing}
use Rattle.rings.specs.Traffic.{Frame, Traffic, traffic, Out, emit, pass_on, home, drop, uncork}

-- all nodes have the intervals and counts of s; node k has the address 02-00-00-00-00-k, the domain sixteen octets FF and
-- the priority 0x8000
abbrev pub settings_at : Setup → ℕ → Setup
settings_at s k = record { short_test = s.short_test; default_test = s.default_test; topology = s.topology; link_up = s.link_up; link_down = s.link_down; test_count = s.test_count; topology_count = s.topology_count; link_count = s.link_count; priority = 0x8000; domain = replicate 16 0xFF; address = 2 ∷ 0 ∷ 0 ∷ 0 ∷ 0 ∷ k ∷ [] }

-- node 0 is the manager
abbrev pub seat : ℕ → Role
seat zero = role.Manager
seat (suc k) = role.Client

-- links that are up, nodes, the meanings of their switches, how many expire calls were accepted, the refusal of the last
-- call (0 for none), and what waits with the counts of the last call
pub record Ring : Type 0 where
  pub links : ℕ → Bool
  pub nodes : ℕ → Node
  pub switches : ℕ → Meaning
  pub expired : ℕ
  pub refusal : ℕ
  pub flow : Traffic

-- a new ring on switches w: all links are down, all nodes are started
abbrev pub fresh : Setup → (ℕ → Meaning) → Ring
fresh s w = record { links = λ _. false; nodes = λ k. started (seat k) (settings_at s k); switches = λ k. quiet (w k); expired = 0; refusal = 0; flow = traffic (λ _ _. []) 0 0 0 }

abbrev pub with_flow : Traffic → Ring → Ring
with_flow t r = record { links = r.links; nodes = r.nodes; switches = r.switches; expired = r.expired; refusal = r.refusal; flow = t }

abbrev pub with_link : ℕ → Bool → Ring → Ring
with_link i b r = record { links = change i b r.links; nodes = r.nodes; switches = r.switches; expired = r.expired; refusal = r.refusal; flow = r.flow }

-- the counter is of 32 bits
abbrev pub ticked : Ring → Ring
ticked r = record { links = r.links; nodes = r.nodes; switches = r.switches; expired = (r.expired + 1) % 4294967296; refusal = r.refusal; flow = r.flow }

-- the octets of what a node sends
abbrev pub outs : Setup → List Sent → List Out
outs s [] = []
outs s (f ∷ fs) = record { port = f.port; frame = record { octets = octets_of s f.message f.sequence } } ∷ outs s fs

-- what node k does at an event
abbrev pub acted : ℕ → Event → Ring → Row Node
acted k e r = acts r.expired e (opened (r.nodes k) (r.switches k))

module _ (n : ℕ) where
  -- node k is told of an event, and what it sends goes on its links
  abbrev pub tell : ℕ → Event → Ring → Ring
  tell k e r = record {
    links = r.links;
    nodes = change k (acted k e r).machine r.nodes;
    switches = change k (acted k e r).switch r.switches;
    expired = r.expired;
    refusal = r.refusal;
    flow = emit n r.links k (outs (setup_of (r.nodes k)) (acted k e r).sent) r.flow;
  }

  -- both ends of link i are told: node i, then the other
  abbrev pub ends : ℕ → Bool → Ring → Ring
  ends i b r = tell (next n i) (turns One b) (tell i (turns Two b) r)

  -- a frame in hand at node k: a manager takes it home, a client passes it on by port o, if there is one
  abbrev pub taken : (ℕ → Bool) → ℕ → Node → Option Port → Frame → Traffic → Traffic
  taken l k (Manager m) o f t = home f t
  taken l k (Client m) (Some q) f t = pass_on l q (link_at n k q) f t
  taken l k (Client m) None f t = drop f t

  -- a frame comes to node k by its port q
  abbrev pub comes : ℕ → Port → Frame → Ring → Ring
  comes k q f r = tell k (hears q f.octets) (with_flow (taken r.links k (r.nodes k) (passed_by q f.octets (r.nodes k)) f r.flow) r)

  -- the first frame of a queue crosses link i, having left by port p
  abbrev pub bring : List Frame → Port → ℕ → Ring → Ring
  bring [] p i r = r
  bring (f ∷ fs) p i r = comes (landing n p i) (other p) f (with_flow (uncork p i r.flow) r)

-- the first frame of a queue is dropped
abbrev pub let_go : List Frame → Port → ℕ → Ring → Ring
let_go [] p i r = r
let_go (f ∷ fs) p i r = with_flow (drop f (uncork p i r.flow)) r
