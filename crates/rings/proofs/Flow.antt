-- No test frame is made, kept or lost unseen, and no more than 128 frames wait.
use Rattle.std.proofs.Common.{◌≡◌, ℕ, zero, suc, ◌+◌, ◌<◌, ◌≤◌, Bool, true, ◌&&◌, ltb, List, [], ◌∷◌, ◌++◌, sym, refl, ap, subst, inl, inr, arith}
use Rattle.std.proofs.lemmas.Bool.{cases_eq}
use Rattle.std.proofs.lemmas.Bool.Decides.{nat_tests}
use Rattle.switch.specs.declared.port.Port.{Port}
use Rattle.switch.specs.declared.port.Port.TheVariants.{One, Two}
use Rattle.switch.specs.Meanings.{Meaning}
use Rattle.settings.specs.Setups.{Setup}
use Rattle.settings.proofs.Limits.{Counts, counts_within}
use Rattle.rings.specs.Places.{change, sum_to}
use Rattle.rings.specs.Traffic.{Frame, Traffic, Queues, Out, tests, any, weigh, requeue, held, join, drop, born, rest}
use Rattle.rings.specs.Rings.{Ring, settings_at}
use Rattle.rings.specs.Calls.{Call, first, sentences, step, after}
use Rattle.rings.specs.Laws.{Limits, TestsAddUp, AtMost128}
use Rattle.rings.proofs.Places.{change_here, change_there, either}
use Rattle.rings.proofs.Steady.{Every, Steady, RightRing, steady, right}

sum_same : (n : ℕ) (f g : ℕ → ℕ) → ((j : ℕ) → j < n → f j ≡ g j) → sum_to n f ≡ sum_to n g
sum_same zero f g h = refl
sum_same (suc n) f g h = omega (arith, h n (omega arith), sum_same n f g (λ j less. h j (omega arith)))

sum_change : (n i : ℕ) (f g : ℕ → ℕ) → ((j : ℕ) → (i ≡ j → ⊥) → f j ≡ g j) → i < n → sum_to n f + g i ≡ sum_to n g + f i
sum_change zero i f g h less = omega arith
sum_change (suc n) i f g h less = elim (cases_eq i n) [
  | inl e ↦ subst (λ k. (f n + sum_to n f) + g k ≡ (g n + sum_to n g) + f k) (sym e) (omega (arith, sum_same n f g (λ j below. h j (omega arith))))
  | inr ne ↦ omega (arith, h n ne, sum_change n i f g h (omega (arith, ne)))
]

weigh_push : (w : Frame → ℕ) (fs : List Frame) (f : Frame) → weigh w (fs ++ (f ∷ [])) ≡ weigh w fs + w f
weigh_push w [] f = omega arith
weigh_push w (x ∷ fs) f = omega (arith, weigh_push w fs f)

-- one side of every link weighed, and the other side changed at one place
changed_sum : (n i : ℕ) (w : Frame → ℕ) (fs : List Frame) (q : ℕ → List Frame) (o : ℕ → ℕ) → i < n → sum_to n (λ j. weigh w (change i fs q j) + o j) + weigh w (q i) ≡ sum_to n (λ j. weigh w (q j) + o j) + weigh w fs
changed_sum n i w fs q o h = omega (arith, sum_change n i (λ j. weigh w (change i fs q j) + o j) (λ j. weigh w (q j) + o j) (λ j ne. ap (λ x. weigh w x + o j) (change_there i j fs q ne)) h, ap (weigh w) (change_here i fs q))

held_requeue : (n : ℕ) (w : Frame → ℕ) (p : Port) (i : ℕ) (fs : List Frame) (q : Queues) → i < n → held n w (requeue p i fs q) + weigh w (q p i) ≡ held n w q + weigh w fs
held_requeue n w One i fs q h = changed_sum n i w fs (q One) (λ j. weigh w (q Two j)) h
held_requeue n w Two i fs q h = omega (arith, changed_sum n i w fs (q Two) (λ j. weigh w (q One j)) h, sum_same n (λ j. weigh w (q Two j) + weigh w (q One j)) (λ j. weigh w (q One j) + weigh w (q Two j)) (λ j _. omega arith), sum_same n (λ j. weigh w (change i fs (q Two) j) + weigh w (q One j)) (λ j. weigh w (q One j) + weigh w (change i fs (q Two) j)) (λ j _. omega arith))

-- every list of frames will do
anything : (os : List Out) → Every (λ _. Unit {0}) os
anything [] = tt
anything (o ∷ os) = (tt, anything os)

sum_zero : (n : ℕ) → sum_to n (λ _. 0 + 0) ≡ 0
sum_zero zero = refl
sum_zero (suc n) = omega (arith, sum_zero n)

pub counts_of : (s : Setup) (n : ℕ) → Limits s n → Counts (settings_at s 0)
counts_of s n lim = counts_within (settings_at s 0) lim.settings

-- with a frame of weight x in hand: what waited at first and what was sent is what has arrived, is lost, waits or is in hand
abbrev Even : ℕ → ℕ → ℕ → Traffic → Type 0
Even n u x t = t.sent + u ≡ t.arrived + t.lost + held n tests t.queues + x

even_steady : (n : ℕ) (s : Setup) (u : ℕ) → Steady n s (λ _. Unit {0}) (Even n u 0) (λ f. Even n u (tests f))
even_steady n s u = record {
  makes = λ stamp k e x w h b g. anything _;
  sends = λ l p i f t h _ e. either (Even n u 0) (l i && ltb (held n any t.queues) 128) (join p i f (born f t)) (drop f (born f t)) (λ _. joins p i f (born f t) h (omega arith)) (omega arith);
  takes = λ p i f fs t h is e. omega (arith, held_requeue n tests p i (rest (t.queues p i)) t.queues h, ap (weigh tests) is, ap (λ x. weigh tests (rest x)) is);
  joins = joins;
  drops = λ f t e. omega arith;
  homes = λ f t e. omega arith;
  purges = λ p i t h e. omega (arith, held_requeue n tests p i [] t.queues h);
}
  where
    joins : (p : Port) (i : ℕ) (f : Frame) (t : Traffic) → i < n → Even n u (tests f) t → Even n u 0 (join p i f t)
    joins p i f t h e = omega (arith, held_requeue n tests p i (t.queues p i ++ (f ∷ [])) t.queues h, weigh_push tests (t.queues p i) f)

step_even : (n : ℕ) (s : Setup) (c : Counts (settings_at s 0)) (x : Call) (r : Ring) → RightRing n s c r → Even n (held n tests r.flow.queues) 0 (step n x r).flow
step_even n s c x r g = steady n s c (λ _. Unit {0}) (Even n u 0) (λ f. Even n u (tests f)) (even_steady n s u) x r g (λ k. omega arith) (first (sentences n x r)) refl
  where
    u : ℕ
    u = held n tests r.flow.queues

pub tests_add_up : TestsAddUp
tests_add_up n s w lim [] = omega (arith, sum_zero n)
tests_add_up n s w lim (x ∷ h) = let c = counts_of s n lim in omega (arith, step_even n s c x (after n s w h) (right n s c w h lim.least), tests_add_up n s w lim h)

-- with x frames in hand
abbrev Room : ℕ → ℕ → Traffic → Type 0
Room n x t = held n any t.queues + x ≤ 128

room_steady : (n : ℕ) (s : Setup) → Steady n s (λ _. Unit {0}) (Room n 0) (λ _. Room n 1)
room_steady n s = record {
  makes = λ stamp k e x w h b g. anything _;
  sends = λ l p i f t h _ e. either (Room n 0) (l i && ltb (held n any t.queues) 128) (join p i f (born f t)) (drop f (born f t)) (λ free. joins p i f (born f t) h (below (l i) (held n any t.queues) free)) e;
  takes = λ p i f fs t h is e. omega (arith, held_requeue n any p i (rest (t.queues p i)) t.queues h, ap (weigh any) is, ap (λ x. weigh any (rest x)) is);
  joins = joins;
  drops = λ f t e. omega arith;
  homes = λ f t e. omega arith;
  purges = λ p i t h e. omega (arith, held_requeue n any p i [] t.queues h);
}
  where
    joins : (p : Port) (i : ℕ) (f : Frame) (t : Traffic) → i < n → Room n 1 t → Room n 0 (join p i f t)
    joins p i f t h e = omega (arith, held_requeue n any p i (t.queues p i ++ (f ∷ [])) t.queues h, weigh_push any (t.queues p i) f)

    below : (b : Bool) (x : ℕ) → (b && ltb x 128) ≡ true → x + 1 ≤ 128
    below b x e = grind (arith, nat_tests)

room : (n : ℕ) (s : Setup) (c : Counts (settings_at s 0)) (w : ℕ → Meaning) (h : List Call) → 2 ≤ n → Room n 0 (after n s w h).flow
room n s c w [] h2 = omega (arith, sum_zero n)
room n s c w (x ∷ h) h2 = steady n s c (λ _. Unit {0}) (Room n 0) (λ _. Room n 1) (room_steady n s) x (after n s w h) (right n s c w h h2) (λ k. room n s c w h h2) (first (sentences n x (after n s w h))) refl

pub at_most_128 : AtMost128
at_most_128 n s w lim h = omega (arith, room n s (counts_of s n lim) w h lim.least)
