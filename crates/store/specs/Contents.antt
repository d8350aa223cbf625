-- The octets that a frame of the code holds.
use Rattle.std.specs.Prelude.{ℕ, List, take, replicate, refl}
use Rattle.std.proofs.Common.{lit≤}
use Rattle.store.specs.declared.frame.Frame.{Frame}

-- the first len octets
abbrev pub contents : Frame → List ℕ
contents f = take f.len f.octets

-- a frame with no octets
abbrev pub no_frame : Frame
no_frame = record { octets = replicate 60 0; len = 0; whole = refl; few = lit≤ tt }
