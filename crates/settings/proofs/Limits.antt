-- What the tests of the limits tell of the settings.
use Rattle.std.proofs.Common.{◌≡◌, ℕ, ◌%◌, ◌≤◌, true, eqb, leb, arith}
use Rattle.std.proofs.lemmas.Bool.{and_parts}
use Rattle.std.proofs.lemmas.Bool.Decides.{nat_tests}
use Rattle.settings.specs.Setups.{Setup, is_interval, is_count, in_time, in_count, within}

interval_is : (t : ℕ) → is_interval t ≡ true → (1 ≤ t) × (t ≤ 1000)
interval_is t h = grind (arith, nat_tests)

count_is : (k n : ℕ) → is_count k n ≡ true → (k ≤ n) × (n ≤ 10)
count_is k n h = grind (arith, nat_tests)

not_above : (a b : ℕ) → leb a b ≡ true → a ≤ b
not_above a b h = grind (arith, nat_tests)

is_zero : (n : ℕ) → eqb n 0 ≡ true → n ≡ 0
is_zero n h = grind (arith, nat_tests)

pub record Times (s : Setup) : Type 0 where
  pub short : (1 ≤ s.short_test) × (s.short_test ≤ 1000)
  pub ordered : s.short_test ≤ s.default_test
  pub default : (1 ≤ s.default_test) × (s.default_test ≤ 1000)
  pub topology : (1 ≤ s.topology) × (s.topology ≤ 1000)
  pub up : (1 ≤ s.link_up) × (s.link_up ≤ 1000)
  pub down : (1 ≤ s.link_down) × (s.link_down ≤ 1000)

pub in_time_lem : (s : Setup) → in_time s ≡ true → Times s
in_time_lem s h =
    let a = and_parts (is_interval s.short_test) _ h in
    let b = and_parts (is_interval s.default_test) _ a.1 in
    let c = and_parts (leb s.short_test s.default_test) _ b.1 in
    let d = and_parts (is_interval s.topology) _ c.1 in
    let e = and_parts (is_interval s.link_up) _ d.1 in
    record { short = interval_is _ a.0; ordered = not_above _ _ c.0; default = interval_is _ b.0; topology = interval_is _ d.0; up = interval_is _ e.0; down = interval_is _ e.1 }

pub record Counts (s : Setup) : Type 0 where
  pub tests : (2 ≤ s.test_count) × (s.test_count ≤ 10)
  pub changes : (1 ≤ s.topology_count) × (s.topology_count ≤ 10)
  pub links : (1 ≤ s.link_count) × (s.link_count ≤ 10)
  pub multiple : s.priority % 0x1000 ≡ 0

pub in_count_lem : (s : Setup) → in_count s ≡ true → Counts s
in_count_lem s h =
    let a = and_parts (is_count 2 s.test_count) _ h in
    let b = and_parts (is_count 1 s.topology_count) _ a.1 in
    let c = and_parts (is_count 1 s.link_count) _ b.1 in
    record { tests = count_is _ _ a.0; changes = count_is _ _ b.0; links = count_is _ _ c.0; multiple = is_zero _ c.1 }

-- settings within their limits have all of them
module _ (s : Setup) (w : within s ≡ true) where
  pub times_within : Times s
  times_within = in_time_lem s (and_parts (in_time s) (in_count s) w).0

  pub counts_within : Counts s
  counts_within = in_count_lem s (and_parts (in_time s) (in_count s) w).1
