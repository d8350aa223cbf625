-- What stands beside each frame of a history.
use Rattle.std.specs.Prelude.{◌≡◌, ℕ, ◌<◌, Bool, ◌&&◌, List, map, length, Option, nat_eq, slice_index}
use Rattle.std.specs.Map.{count_at}
use Rattle.std.specs.Str.{bytes_eq}
use Rattle.clash.specs.Clashes.{frame_at, count, same_sender, same_number, other_kind}
use Rattle.clash.specs.Places.{last_below, entry}
use Rattle.clash.specs.Sightings.{Seen, shown}
use Rattle.clash.specs.declared.noted.Noted.{Noted}

-- the frames that stand in a history, in order
abbrev pub seen_in : List Noted → List Seen
seen_in ns = map (λ (n : Noted). shown n.seen) ns

-- what stands beside them: a count of frames, and two numbers one more than the places of earlier frames, or 0
abbrev pub ranks_in : List Noted → List ℕ
ranks_in ns = map (λ (n : Noted). n.rank) ns

abbrev pub previous_in : List Noted → List ℕ
previous_in ns = map (λ (n : Noted). n.previous) ns

abbrev pub others_in : List Noted → List ℕ
others_in ns = map (λ (n : Noted). n.other) ns

-- beside each frame stands what F finds, of the frames before it, by the test R
abbrev pub Recorded : ((ℕ → Bool) → ℕ → ℕ) → (Seen → Seen → Bool) → List Seen → List ℕ → Type 0
Recorded F R es vs = (j : ℕ) → j < length es → slice_index vs j ≡ F (λ i. R (frame_at es j) (frame_at es i)) j

-- how many frames each sender has
abbrev pub Counted : List Seen → (List ℕ → Option ℕ) → Type 0
Counted es f = (k : List ℕ) → count_at f k ≡ count (λ i. bytes_eq k (frame_at es i).sender) (length es)

-- the number of a frame: its sequence number, and its sender
abbrev pub number_of : Seen → ℕ × List ℕ
number_of s = (s.sequence, s.sender)

-- two numbers are one
abbrev pub number_eq : ℕ × List ℕ → ℕ × List ℕ → Bool
number_eq a b = nat_eq a.0 b.0 && bytes_eq a.1 b.1

-- which frame is the latest with each number: one more than its place, and no entry where no frame has it
abbrev pub Latest : List Seen → (ℕ × List ℕ → Option ℕ) → Type 0
Latest es f = (k : ℕ × List ℕ) → f k ≡ entry (last_below (λ i. number_eq k (number_of (frame_at es i))) (length es))

-- what is true of a history: what stands beside its frames, and what is found by a sender and by a number of a sender
pub record Kept (ns : List Noted) (counts : List ℕ → Option ℕ) (numbers : ℕ × List ℕ → Option ℕ) : Type 0 where
  pub ranked : Recorded count same_sender (seen_in ns) (ranks_in ns)
  pub preceded : Recorded last_below same_number (seen_in ns) (previous_in ns)
  pub differed : Recorded last_below other_kind (seen_in ns) (others_in ns)
  pub counted : Counted (seen_in ns) counts
  pub latest : Latest (seen_in ns) numbers

-- what is to stand beside one more frame
pub record Described (es : List Seen) (s : Seen) (r : Noted) : Type 0 where
  pub frame : shown r.seen ≡ s
  pub rank : r.rank ≡ count (λ i. same_sender s (frame_at es i)) (length es)
  pub previous : r.previous ≡ last_below (λ i. same_number s (frame_at es i)) (length es)
  pub other : r.other ≡ last_below (λ i. other_kind s (frame_at es i)) (length es)
