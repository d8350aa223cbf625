-- The five calls on a ring, their refusals, and histories of calls.
use Rattle.std.specs.Prelude.{ℕ, zero, suc, Bool, true, false, cond, not, List, [], ◌∷◌, Ok, Err, Result, nat_le, nat_lt}
use Rattle.switch.specs.declared.port.Port.{Port}
use Rattle.switch.specs.declared.port.Port.TheVariants.{One, Two}
use Rattle.switch.specs.Meanings.{Meaning}
use Rattle.settings.specs.Setups.{Setup}
use Rattle.event.specs.Events.{expires}
use Rattle.refusal.specs.declared.Refusal.{Refusal}
use Rattle.node.specs.Nodes.{expire_answer}
use Rattle.rings.specs.Traffic.{traffic, purge}
use Rattle.rings.specs.Rings.{Ring, fresh, with_flow, with_link, ticked, tell, ends, bring, let_go}

-- a link and perhaps a direction, or a node and a timer
pub data Call : Type 0 where
  link_up link_down : ℕ → Call
  carry lose : ℕ → ℕ → Call
  expire : ℕ → ℕ → Call

-- a refusal is the first sentence that fits, by its number, or 0
pub record Sentence : Type 0 where
  pub fits : Bool
  pub number : ℕ

infixl 20 ◌says◌
abbrev pub ◌says◌ : Bool → ℕ → Sentence
b says k = record { fits = b; number = k }

abbrev pub first : List Sentence → ℕ
first [] = 0
first (c ∷ cs) = cond c.fits c.number (first cs)

abbrev pub is_empty : {A : Type 0} → List A → Bool
is_empty [] = true
is_empty (x ∷ xs) = false

-- the port that frames leave by in a direction
abbrev pub leaves_by : ℕ → Port
leaves_by zero = Two
leaves_by (suc d) = One

-- whether a run-out is accepted
abbrev pub is_ok : Result (Unit {0}) Refusal → Bool
is_ok (Ok x) = true
is_ok (Err e) = false

module _ (n : ℕ) where
  -- no such link; the link is already so; no such direction; nothing waits there; no such node; no such timer; the timer
  -- is not running there
  abbrev pub sentences : Call → Ring → List Sentence
  sentences (link_up i) r = (nat_le n i says 15) ∷ (r.links i says 19) ∷ []
  sentences (link_down i) r = (nat_le n i says 15) ∷ (not (r.links i) says 19) ∷ []
  sentences (carry i d) r = (nat_le n i says 15) ∷ (nat_lt 1 d says 17) ∷ (is_empty (r.flow.queues (leaves_by d) i) says 20) ∷ []
  sentences (lose i d) r = (nat_le n i says 15) ∷ (nat_lt 1 d says 17) ∷ (is_empty (r.flow.queues (leaves_by d) i) says 20) ∷ []
  sentences (expire k t) r = (nat_le n k says 16) ∷ (nat_lt 4 t says 18) ∷ (not (is_ok (expire_answer t (r.nodes k))) says 21) ∷ []

  -- a call that is accepted
  abbrev pub act : Call → Ring → Ring
  act (link_up i) r = ends n i true (with_link i true r)
  act (link_down i) r = ends n i false (with_link i false (with_flow (purge One i (purge Two i r.flow)) r))
  act (carry i d) r = bring n (r.flow.queues (leaves_by d) i) (leaves_by d) i r
  act (lose i d) r = let_go (r.flow.queues (leaves_by d) i) (leaves_by d) i r
  act (expire k t) r = ticked (tell n k (expires t) r)

  -- the counts start at 0 with each call
  abbrev pub begun : ℕ → Ring → Ring
  begun k r = record { links = r.links; nodes = r.nodes; switches = r.switches; expired = r.expired; refusal = k; flow = traffic r.flow.queues 0 0 0 }

  abbrev pub proceed : ℕ → Call → Ring → Ring
  proceed zero c r = act c r
  proceed (suc k) c r = r

  -- a call, refused or not
  abbrev pub step : Call → Ring → Ring
  step c r = let k : ℕ = first (sentences c r) in proceed k c (begun k r)

  -- a new ring after a history of calls, the newest first
  abbrev pub after : Setup → (ℕ → Meaning) → List Call → Ring
  after s w [] = fresh s w
  after s w (c ∷ h) = step c (after s w h)
