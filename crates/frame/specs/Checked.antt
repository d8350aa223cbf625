-- The kind of a frame, or the number of its refusal.
use Rattle.std.specs.Prelude.{◌≡◌, ℕ, ◌+◌, List, Some, Ok, Err, Option, Result}
use Rattle.refusal.specs.declared.Refusal.{Refusal}
use Rattle.refusal.specs.Refusals.{number_of}
use Rattle.kind.specs.declared.Kind.{Kind}
use Rattle.kind.specs.declared.Kind.TheVariants.{Test, TopologyChange, LinkDown, LinkUp}
use Rattle.kind.specs.Kinds.{span_of, goes_to, address_of}
use Rattle.layout.specs.Elements.{Element, test_at, topology_change_at, link_down_at, link_up_at, element_at, kind_of, span_at, address_at, size_of}
use Rattle.layout.specs.Reading.{Reading, refused, accepted}

pub data Checked : Type 0 where
  unfit : ℕ → Checked
  fit : Option Kind → Checked

-- of what is read, only the kind
abbrev pub kind_reading : Reading → Checked
kind_reading (refused n) = unfit n
kind_reading (accepted s e n d) = fit (kind_of e)

abbrev pub checked : Result Kind Refusal → Checked
checked (Ok k) = fit (Some k)
checked (Err e) = unfit (number_of e)

-- the first element of a frame of this kind
abbrev pub first_at : Kind → List ℕ → Element
first_at Test xs = test_at xs 16
first_at TopologyChange xs = topology_change_at xs 16
first_at LinkDown xs = link_down_at xs 16
first_at LinkUp xs = link_up_at xs 16

-- the first element is of this kind, and what the kind tells of the frame
pub record KindAt (k : Kind) (xs : List ℕ) : Type 0 where
  pub element : element_at xs 16 ≡ first_at k xs
  pub kind : Some k ≡ kind_of (element_at xs 16)
  pub span : span_of k ≡ span_at (kind_of (element_at xs 16))
  pub address : address_of (goes_to k) ≡ address_at (kind_of (element_at xs 16))
  pub size : span_of k ≡ size_of (element_at xs 16) + 24
