-- What stays when the ports are exchanged, and that exchanging twice changes nothing.
use Rattle.std.specs.Prelude.{◌≡◌, ℕ, List, Some, None, Option, option_map, is_some, refl}
use Rattle.std.proofs.Math.Logic.{∥∥₁_map}
use Rattle.std.proofs.Common.{◌∙◌, ap}
use Rattle.std.proofs.Math.Path.{fun_ext}
use Rattle.switch.specs.declared.port.Port.{Port}
use Rattle.switch.specs.declared.port.Port.TheVariants.{One, Two}
use Rattle.switch.specs.Ports.{other}
use Rattle.switch.specs.Meanings.{Meaning, Sound}
use Rattle.turned.specs.Turning.{exchanged, TurnedTwice}

known_still : (o : Option Port) → is_some (option_map other o) ≡ is_some o
known_still None = refl
known_still (Some p) = refl

pub exchanged_sound : (k : ℕ) (m : Meaning) → Sound k m → Sound k (exchanged m)
exchanged_sound k m h = record {
  few = h.few;
  real = λ a n. ap (option_map other) (h.real a n);
  listed = ∥∥₁_map h.listed (λ c. (c.0, record { once = c.1.once; many = c.1.many; all = λ a. known_still (m.known a) ∙ c.1.all a }));
}

twice_other : (o : Option Port) → option_map other (option_map other o) ≡ o
twice_other None = refl
twice_other (Some One) = refl
twice_other (Some Two) = refl

pub turned_twice : TurnedTwice
turned_twice m = ap (λ (f : List ℕ → Option Port). record { first = m.first; second = m.second; known = f; count = m.count }) (fun_ext (λ a. twice_other (m.known a)))
