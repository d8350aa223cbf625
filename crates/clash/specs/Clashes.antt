-- Which frames clash: one sender used one sequence number on two kinds of frame, not too long ago.
use Rattle.std.specs.Prelude.{◌≡◌, ℕ, zero, suc, ◌+◌, ◌<◌, Bool, true, cond, not, ◌&&◌, List, [], ◌∷◌, length, ◌==◌, nat_lt, slice_index_or}
use Rattle.clash.specs.Sightings.{Seen}
use Rattle.std.specs.Str.{bytes_eq}

-- what stands past the last frame
abbrev pub nobody : Seen
nobody = record { line = 0; sender = []; kind = 0; sequence = 0 }

-- the frame at place i
abbrev pub frame_at : List Seen → ℕ → Seen
frame_at es i = slice_index_or es i nobody

-- one sender
abbrev pub same_sender : Seen → Seen → Bool
same_sender a b = bytes_eq a.sender b.sender

-- one sender and one sequence number
abbrev pub same_number : Seen → Seen → Bool
same_number a b = a.sequence == b.sequence && same_sender a b

-- one sender and one sequence number, on two kinds
abbrev pub other_kind : Seen → Seen → Bool
other_kind a b = same_number a b && not (a.kind == b.kind)

-- how many places below m pass a test
abbrev pub count : (ℕ → Bool) → ℕ → ℕ
count p zero = 0
count p (suc m) = cond (p m) 1 0 + count p m

-- how many of the frames strictly between places i and j have the sender of frame j
abbrev pub between : List Seen → ℕ → ℕ → ℕ
between es i j = count (λ k. nat_lt i k && same_sender (frame_at es j) (frame_at es k)) j

-- frame j clashes with the earlier frame i: past 32,767 frames of the sender in between, its numbers may have come round
abbrev pub clash : List Seen → ℕ → ℕ → Bool
clash es i j = other_kind (frame_at es j) (frame_at es i) && nat_lt (between es i j) 32768

-- the lines of the frames below place m that frame j clashes with, newest first
abbrev pub partners : List Seen → ℕ → ℕ → List ℕ
partners es j zero = []
partners es j (suc m) = cond (clash es m j) ((frame_at es m).line ∷ partners es j m) (partners es j m)

-- the lines of all earlier frames that frame j clashes with, newest first
abbrev pub clash_lines : List Seen → ℕ → List ℕ
clash_lines es j = cond (nat_lt j (length es)) (partners es j j) []

-- a search for the clashes of frame j has come to `s`: 0, or one more than the place of an earlier frame with its sender and number and another kind
abbrev pub IsOnTrail : List Seen → ℕ → ℕ → Type 0
IsOnTrail es j s = (i : ℕ) → s ≡ suc i → (i < j) × (j < length es) × (other_kind (frame_at es j) (frame_at es i) ≡ true)
