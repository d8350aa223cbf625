-- Every test frame that waits is heard by the manager as its own.
use Rattle.std.proofs.Common.{◌≡◌, ℕ, zero, suc, ◌<◌, Bool, true, false, ◌&&◌, eqb, ltb, List, [], ◌∷◌, ◌++◌, Some, sym, refl, ap, ◌∙◌, subst, arith}
use Rattle.std.proofs.lemmas.Bool.{both_ways}
use Rattle.switch.specs.declared.port.Port.{Port}
use Rattle.switch.specs.declared.port.Port.TheVariants.{One, Two}
use Rattle.switch.specs.Meanings.{Meaning}
use Rattle.settings.specs.Setups.{Setup, within, Within}
use Rattle.settings.proofs.Limits.{times_within, counts_within}
use Rattle.event.specs.Events.{Event}
use Rattle.hearing.specs.Heards.{heard, understood}
use Rattle.hearing.specs.declared.Heard.TheVariants.{OwnTest}
use Rattle.outbox.specs.declared.message.Message.{Message}
use Rattle.outbox.specs.declared.message.Message.TheVariants.{Test, TopologyChange, LinkDown, LinkUp}
use Rattle.outbox.specs.Messages.{octets_of, content_of}
use Rattle.outbox.specs.Boxes.{Sent}
use Rattle.outbox.specs.Rows.{opened}
use Rattle.writer.specs.Sent.{body_shown}
use Rattle.client.specs.Machines as client-machine
use Rattle.client.specs.Rows as client-rows
use Rattle.node.specs.Nodes.{setup_of, acts}
use Rattle.node.specs.declared.Node.{Node}
use Rattle.node.specs.declared.Node.TheVariants.{Client, Manager}
use Rattle.node_laws.specs.Saying as saying
use Rattle.node_laws.specs.Saying.{ReadsBack}
use Rattle.node_laws.proofs.Says.{Fitting, Sized, said_back, fitting}
use Rattle.rings.specs.Traffic.{Frame, Traffic, is_test, test_read, begins, any, held, requeue, join, drop, born, rest}
use Rattle.rings.specs.Rings.{settings_at, outs}
use Rattle.rings.specs.Calls.{Call, first, sentences, after}
use Rattle.rings.specs.Laws.{Limits}
use Rattle.rings.proofs.Places.{either}
use Rattle.rings.proofs.Nodes.{Right}
use Rattle.rings.proofs.Steady.{Every, Steady, steady, right}
use Rattle.rings.proofs.Flow.{counts_of}

abbrev pub Own : Setup → Frame → Type 0
Own s f = is_test f.octets ≡ true → heard (settings_at s 0) f.octets ≡ Some OwnTest

abbrev tested : Message → Bool
tested (Test r c n t) = true
tested (TopologyChange i) = false
tested (LinkDown i) = false
tested (LinkUp i) = false

begins_is : (s : Setup) (m : Message) → begins (body_shown (content_of s m)) ≡ tested m
begins_is s (Test r c n t) = refl
begins_is s (TopologyChange i) = refl
begins_is s (LinkDown i) = refl
begins_is s (LinkUp i) = refl

-- a frame reads as a Test exactly if it was sent as one
read_test : (s : Setup) (f : Sent) → ReadsBack s f → is_test (octets_of s f.message f.sequence) ≡ tested f.message
unfolding is_test
read_test s f back = ap test_read back ∙ begins_is s f.message

abbrev frame_of : Setup → Sent → Frame
frame_of s f = record { octets = octets_of s f.message f.sequence }

no_test_own : (s u : Setup) (f : Sent) → ReadsBack u f → tested f.message ≡ false → Own s (frame_of u f)
no_test_own s u f back no_test is = absurd (both_ways (tested f.message) no_test (sym (read_test u f back) ∙ is))

test_heard : (s : Setup) (p : Port) (m : Message) (n : ℕ) → ReadsBack (settings_at s 0) (record { port = p; message = m; sequence = n }) → tested m ≡ true → heard (settings_at s 0) (octets_of (settings_at s 0) m n) ≡ Some OwnTest
unfolding heard
test_heard s p (Test r c k t) n back e = ap (understood (settings_at s 0)) back
test_heard s p (TopologyChange i) n back e = absurd (both_ways false refl e)
test_heard s p (LinkDown i) n back e = absurd (both_ways false refl e)
test_heard s p (LinkUp i) n back e = absurd (both_ways false refl e)

manager_own : (s : Setup) (f : Sent) → ReadsBack (settings_at s 0) f → Own s (frame_of (settings_at s 0) f)
manager_own s f back is = test_heard s f.port f.message f.sequence back (sym (read_test (settings_at s 0) f back) ∙ is)

-- a client sends no Test
client_tests_not : (e : Event) (m : client-machine.Machine) (w : Meaning) → Every (λ (f : Sent). tested f.message ≡ false) (client-rows.acts e (opened m w)).sent
client_tests_not e m w = grind arith

all_manager : (s : Setup) (fs : List Sent) → Within (settings_at s 0) → saying.Every Fitting fs → Every (λ o. Own s o.frame) (outs (settings_at s 0) fs)
all_manager s [] g a = tt
all_manager s (f ∷ fs) g a = (manager_own s f (said_back (settings_at s 0) f g a.0), all_manager s fs g a.1)

all_client : (s u : Setup) (fs : List Sent) → Within u → saying.Every Fitting fs → Every (λ (f : Sent). tested f.message ≡ false) fs → Every (λ o. Own s o.frame) (outs u fs)
all_client s u [] g a b = tt
all_client s u (f ∷ fs) g a b = (no_test_own s u f (said_back u f g a.0) b.0, all_client s u fs g a.1 b.1)

whole : (s : Setup) (k : ℕ) → within (settings_at s 0) ≡ true → Within (settings_at s k)
whole s k v = record { limits = v; address = refl; domain = refl; priority = omega arith }

-- all that node k sends fits its fields
fits : (s : Setup) → within (settings_at s 0) ≡ true → (stamp k : ℕ) (e : Event) (x : Node) (w : Meaning) → stamp < 4294967296 → Sized (settings_at s k) x → saying.Every Fitting (acts stamp e (opened x w)).sent
fits s v stamp k e x w b g = fitting stamp e (settings_at s k) x w b (times_within (settings_at s k) v) (counts_within (settings_at s k) v) g

makes_own : (s : Setup) → within (settings_at s 0) ≡ true → (stamp k : ℕ) (e : Event) (x : Node) (w : Meaning) → stamp < 4294967296 → Right s k x → Every (λ o. Own s o.frame) (outs (setup_of x) (acts stamp e (opened x w)).sent)
makes_own s v stamp zero e (Manager m) w b g =
    subst (λ (u : Setup). Every (λ o. Own s o.frame) (outs u (acts stamp e (opened (Manager m) w)).sent)) (sym g.its)
    (all_manager s _ (whole s 0 v) (fits s v stamp 0 e (Manager m) w b g))
makes_own s v stamp zero e (Client m) w b g = absurd g
makes_own s v stamp (suc k) e (Client m) w b g =
    subst (λ (u : Setup). Every (λ o. Own s o.frame) (outs u (acts stamp e (opened (Client m) w)).sent)) (sym g.its)
    (all_client s (settings_at s (suc k)) _ (whole s (suc k) v) (fits s v stamp (suc k) e (Client m) w b g) (client_tests_not e m w))
makes_own s v stamp (suc k) e (Manager m) w b g = absurd g

every_push : {A : Type 0} (P : A → Type 0) (xs : List A) (x : A) → Every P xs → P x → Every P (xs ++ (x ∷ []))
every_push P [] x all new = (new, tt)
every_push P (y ∷ xs) x all new = (all.0, every_push P xs x all.1 new)

every_rest : {A : Type 0} (P : A → Type 0) (xs : List A) → Every P xs → Every P (rest xs)
every_rest P [] all = tt
every_rest P (x ∷ xs) all = all.1

-- P holds of all that waits
module _ (P : Frame → Type 0) where
  abbrev pub Kept : Traffic → Type 0
  Kept t = (p : Port) (i : ℕ) → Every P (t.queues p i)

  requeue_kept : (p : Port) (i : ℕ) (fs : List Frame) (t : Traffic) → Every P fs → Kept t → (q : Port) (j : ℕ) → Every P (requeue p i fs t.queues q j)
  requeue_kept One i fs t new old One j = either (Every P) (eqb i j) fs (t.queues One j) (λ _. new) (old One j)
  requeue_kept One i fs t new old Two j = old Two j
  requeue_kept Two i fs t new old One j = old One j
  requeue_kept Two i fs t new old Two j = either (Every P) (eqb i j) fs (t.queues Two j) (λ _. new) (old Two j)

  join_kept : (p : Port) (i : ℕ) (f : Frame) (t : Traffic) → P f → Kept t → Kept (join p i f t)
  join_kept p i f t new old = requeue_kept p i (t.queues p i ++ (f ∷ [])) t (every_push P (t.queues p i) f (old p i) new) old

own_steady : (n : ℕ) (s : Setup) → Limits s n → Steady n s (Own s) (Kept (Own s)) (λ f t. Own s f × Kept (Own s) t)
own_steady n s lim = record {
  makes = λ stamp k e x w h b g. makes_own s lim.settings stamp k e x w b g;
  sends = λ l p i f t h new old. either (Kept (Own s)) (l i && ltb (held n any t.queues) 128) (join p i f (born f t)) (drop f (born f t)) (λ _. join_kept (Own s) p i f (born f t) new old) old;
  takes = λ p i f fs t h is old. let these : Every (Own s) (f ∷ fs) = subst (Every (Own s)) is (old p i) in (these.0, requeue_kept (Own s) p i (rest (t.queues p i)) t (every_rest (Own s) (t.queues p i) (old p i)) old);
  joins = λ p i f t h q. join_kept (Own s) p i f t q.0 q.1;
  drops = λ f t q. q.1;
  homes = λ f t q. q.1;
  purges = λ p i t h old. requeue_kept (Own s) p i [] t tt old;
}

pub all_own : (n : ℕ) (s : Setup) (w : ℕ → Meaning) → Limits s n → (h : List Call) → Kept (Own s) (after n s w h).flow
all_own n s w lim [] = λ p i. tt
all_own n s w lim (x ∷ h) = let c = counts_of s n lim in steady n s c (Own s) (Kept (Own s)) (λ f t. Own s f × Kept (Own s) t) (own_steady n s lim) x (after n s w h) (right n s c w h lim.least) (λ k. all_own n s w lim h) (first (sentences n x (after n s w h))) refl
