-- What comes back of a frame in hand.
use Rattle.std.specs.Prelude.{◌≡◌, Ok, Err, Result}
use Rattle.std.specs.Borrow.{MutBor}
use Rattle.store.specs.declared.hand.HandedBack.{HandedBack}
use Rattle.store.specs.declared.hand.InHand.{InHand}
use Rattle.store.specs.Model.{Model}

-- a frame that comes back is the one that was handed in, and the store is as before
abbrev pub Back : Result (Unit {0}) HandedBack → InHand → Model → Model → Type 0
Back (Ok u) t m n = Unit {0}
Back (Err b) t m n = (b.frame ≡ t) × (n ≡ m)

-- so does each call of a step
abbrev pub HandsBack : (MutBor Model → InHand → Result (Unit {0}) HandedBack → MutBor Model → Type 0) → Type 0
HandsBack P = (s : MutBor Model) (t : InHand) (r : Result (Unit {0}) HandedBack) (n : MutBor Model) → P s t r n → Back r t s.now n.now
