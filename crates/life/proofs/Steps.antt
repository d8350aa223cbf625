-- A step by its equations has its places filled, and the laws hold wherever it leads.
use Rattle.std.proofs.Common.{◌≡◌, ℕ, ◌≤◌, Bool, true, false, cond, List, [], length, Ok, Err, Result, refl, ap, ◌∙◌, subst, arith}
use Rattle.refusal.specs.declared.Refusal.{Refusal}
use Rattle.refusal.specs.declared.Refusal.TheVariants.{TimerNotRunning}
use Rattle.switch.specs.Meanings.{Meaning}
use Rattle.settings.specs.Setups.{Setup}
use Rattle.event.specs.Events.{Event, turns, hears, expires, timer_of, is_on, run_out}
use Rattle.event.specs.declared.Timer.{Timer}
use Rattle.outbox.specs.declared.places.Outbox.{Outbox}
use Rattle.outbox.specs.Boxes.{Sent, pushed_all}
use Rattle.outbox.specs.Rows.{Row, opened, begun, Acted}
use Rattle.outbox.proofs.Lays.{lays}
use Rattle.client.specs.Machines as client-machine
use Rattle.client.specs.Rows as client-rows
use Rattle.manager.specs.Machines as manager-machine
use Rattle.manager.specs.Rows as manager-rows
use Rattle.node.specs.Nodes.{setup_of, acts}
use Rattle.node.specs.declared.Node.{Node}
use Rattle.node.specs.declared.Node.TheVariants.{Client, Manager}
use Rattle.node_laws.specs.Histories.{after, links_after}
use Rattle.node_laws.specs.Tables.{Fit, Opens}
use Rattle.node_laws.specs.Saying.{Every, ReadsBack}
use Rattle.node_laws.proofs.Fits.{always_fit, always_opens, four_frames}
use Rattle.node_laws.proofs.Says.{always_reads_back}
use Rattle.life.specs.Steps.{step_answer, filled, Here, SaidBack, Stepped}

pub is_here : (n : Node) (w : Meaning) → Here n w
is_here n w r s v h e f =
    let m = (after r s v h).machine in
    let x = (after r s v h).switch in (
      subst (λ (k : Node). Fit k w (links_after h)) e (subst (λ (y : Meaning). Fit m y (links_after h)) f (always_fit r s v h)),
      subst (λ (k : Node). Opens k w) e (subst (λ (y : Meaning). Opens m y) f (always_opens r s v h)),
    )

said_back : (n : Node) (w : Meaning) (fs : List Sent) → SaidBack n w fs
said_back n w fs r s v h g t e f k = subst (λ (xs : List Sent). Every (ReadsBack s) xs) k (always_reads_back r s v h g t)

-- the frames stand in the places, where a refused event sends none
placed : (s : Setup) (r : Result (Unit {0}) Refusal) (fs : List Sent) (o : Outbox) → length fs ≤ 4 → ((e : Refusal) → r ≡ Err e → fs ≡ []) → pushed_all s fs (begun r o) ≡ filled r s fs o
placed s (Ok x) fs o four silent = lays s fs o four
placed s (Err e) fs o four silent = ap (λ (xs : List Sent). pushed_all s xs o) (silent e refl)

abbrev as_number : Result (Unit {0}) Refusal → ℕ
as_number (Ok x) = 0
as_number (Err e) = 1

unlike : {A : Type 0} (e : Refusal) → ◌≡◌ {A = Result (Unit {0}) Refusal} (Ok tt) (Err e) → A
unlike e h = let z : ◌≡◌ {A = ℕ} 0 1 = ap as_number h in absurd (omega arith)

-- a timer that does not run is refused, and its row does not act
silent_by : {M : Type 0} (b : Bool) (x y : Row M) (e f : Refusal) → y.sent ≡ [] → ◌≡◌ {A = Result (Unit {0}) Refusal} (cond b (Ok tt) (Err f)) (Err e) → (cond b x y).sent ≡ []
silent_by true x y e f h k = unlike e k
silent_by false x y e f h k = h

client_silent : (x : Result Timer Refusal) (m : client-machine.Machine) (w : Meaning) (e : Refusal) → run_out (client-machine.timer_in m) x ≡ Err e → (client-rows.expires x (opened m w)).sent ≡ []
client_silent (Err f) m w e h = refl
client_silent (Ok t) m w e h = silent_by (is_on (client-machine.timer_in m t)) (client-rows.fires t (opened m w)) (opened m w) e TimerNotRunning refl h

manager_silent : (stamp : ℕ) (x : Result Timer Refusal) (m : manager-machine.Machine) (w : Meaning) (e : Refusal) → run_out (manager-machine.timer_in m) x ≡ Err e → (manager-rows.expires stamp x (opened m w)).sent ≡ []
manager_silent stamp (Err f) m w e h = refl
manager_silent stamp (Ok t) m w e h = silent_by (is_on (manager-machine.timer_in m t)) (manager-rows.fires stamp t (opened m w)) (opened m w) e TimerNotRunning refl h

silent : (stamp : ℕ) (v : Event) (n : Node) (w : Meaning) (e : Refusal) → step_answer v n ≡ Err e → (acts stamp v (opened n w)).sent ≡ []
silent stamp (turns p b) n w e h = unlike e h
silent stamp (hears p xs) n w e h = unlike e h
silent stamp (expires k) (Client m) w e h = client_silent (timer_of k) m w e h
silent stamp (expires k) (Manager m) w e h = manager_silent stamp (timer_of k) m w e h

pub step : (stamp : ℕ) (e : Event) (n n' : Node) (w w' : Meaning) (o o' : Outbox) → Acted (acts stamp e) (setup_of n) n n' w w' (begun (step_answer e n) o) o' → Stepped stamp e n n' w w' o o'
step stamp e n n' w w' o o' a = record {
  machine = a.machine;
  switch = a.switch;
  places = a.sends ∙ placed (setup_of n) (step_answer e n) (acts stamp e (opened n w)).sent o (four_frames stamp e n w) (silent stamp e n w);
  fits = is_here n' w';
  back = said_back n' w' _;
}
