-- The octet of the plain chip: the state of port 1 in its low four bits, that of port 2 in the others.
use Rattle.std.specs.Prelude.{ℕ, zero, suc, ◌/◌, ◌%◌, [], None, refl}
use Rattle.std.proofs.Math.Nat.{le_refl}
use Rattle.std.specs.List.{IsDistinct}
use Rattle.switch.specs.declared.port.PortState.{PortState}
use Rattle.switch.specs.declared.port.PortState.TheVariants.{Disabled, Blocked, Forwarding}
use Rattle.switch.specs.Meanings.{Meaning, Sound}

-- the number of a state
abbrev pub state_number : PortState → ℕ
state_number Disabled = 0
state_number Blocked = 1
state_number Forwarding = 2

-- the state that four bits stand for
abbrev pub state_of : ℕ → PortState
state_of zero = Disabled
state_of (suc zero) = Blocked
state_of (suc (suc n)) = Forwarding

-- the chip knows no address
abbrev pub chip_meaning : ℕ → Meaning
chip_meaning n = record { first = state_of (n % 16); second = state_of (n / 16); known = λ _. None; count = 0 }

-- what every kind owes holds of it
pub chip_sound : (n : ℕ) → Sound 0 (chip_meaning n)
unfolding IsDistinct
chip_sound n = record { few = le_refl 0; real = λ a h. refl; listed = ∣ ([], record { once = tt; many = refl; all = λ a. refl }) ∣₁ }
