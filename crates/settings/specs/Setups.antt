-- The settings of a node, and their limits.
use Rattle.std.specs.Prelude.{◌≡◌, ℕ, ◌%◌, ◌<◌, Bool, true, false, ◌&&◌, length, Ok, Err, Result, ◌==◌, nat_le}
use Rattle.refusal.specs.declared.Refusal.{Refusal}
use Rattle.refusal.specs.declared.Refusal.TheVariants as refusal
use Rattle.settings.specs.declared.draft.Draft.{Draft}

-- intervals in milliseconds: short and default test, topology change, link up and link down; counts of tests, of
-- topology changes and of link frames; priority, domain and address
abbrev pub Setup : Type 0
Setup = Draft

abbrev pub is_interval : ℕ → Bool
is_interval t = nat_le 1 t && nat_le t 1000

-- intervals of 1 to 1000 ms, a short test no longer than a default one
abbrev pub in_time : Setup → Bool
in_time s = is_interval s.short_test && (is_interval s.default_test && (nat_le s.short_test s.default_test && (is_interval s.topology && (is_interval s.link_up && is_interval s.link_down))))

abbrev pub is_count : ℕ → ℕ → Bool
is_count least n = nat_le least n && nat_le n 10

-- 2 to 10 tests, 1 to 10 topology changes and link frames; a priority that is a multiple of 0x1000
abbrev pub in_count : Setup → Bool
in_count s = is_count 2 s.test_count && (is_count 1 s.topology_count && (is_count 1 s.link_count && s.priority % 0x1000 == 0))

abbrev pub within : Setup → Bool
within s = in_time s && in_count s

-- within their limits, with a priority of 16 bits, a domain of 16 octets and an address of 6
pub record Within (s : Setup) : Type 0 where
  pub limits : within s ≡ true
  pub priority : s.priority < 0x10000
  pub domain : length s.domain ≡ 16
  pub address : length s.address ≡ 6

-- the settings are those asked for, where they are within their limits; anything else is refused as 13
abbrev pub Settled : Setup → Result Setup Refusal → Type 0
Settled s (Ok r) = (within s ≡ true) × (r ≡ s)
Settled s (Err e) = (within s ≡ false) × (e ≡ refusal.Setting)
