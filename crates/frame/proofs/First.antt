-- A first element by its type and length, and what its kind tells of the frame.
use Rattle.std.proofs.Common.{◌≡◌, ℕ, ◌+◌, ◌≤◌, ◌&&◌, false, nat_le, length, arith, List, is_some, Some, None, ◌==◌, sym, refl, ap, ◌∙◌}
use Rattle.std.specs.Bool.{then_some}
use Rattle.kind.specs.declared.Kind.{Kind}
use Rattle.kind.specs.declared.Kind.TheVariants.{Test, TopologyChange, LinkDown, LinkUp}
use Rattle.std.proofs.lemmas.Bool.Decides.{nat_tests}
use Rattle.kind.specs.Kinds.{type_of, span_of}
use Rattle.layout.specs.Fields.{octet}
use Rattle.layout.specs.Elements.{element_at, stands, kind_of, span_at, address_at, size_of}
use Rattle.frame.specs.Checked.{first_at, KindAt}

-- an element of a kind's type begins a frame of this kind where it has the kind's length, and else none
pub kind_by_length : (k : Kind) (xs : List ℕ) → type_of k ≡ octet xs 16 → 50 ≤ length xs → then_some (octet xs 17 + 26 == span_of k) k ≡ kind_of (element_at xs 16)
unfolding element_at stands
kind_by_length Test xs t l = grind (arith, nat_tests)
kind_by_length TopologyChange xs t l = grind (arith, nat_tests)
kind_by_length LinkDown xs t l = grind (arith, nat_tests)
kind_by_length LinkUp xs t l = grind (arith, nat_tests)

-- an element of another length begins no frame, however many octets there are
pub other_length : (k : Kind) (xs : List ℕ) → type_of k ≡ octet xs 16 → (octet xs 17 + 26 ≡ span_of k → ⊥) → is_some (kind_of (element_at xs 16)) ≡ false
unfolding element_at stands
other_length Test xs t n = grind (arith, nat_tests)
other_length TopologyChange xs t n = grind (arith, nat_tests)
other_length LinkDown xs t n = grind (arith, nat_tests)
other_length LinkUp xs t n = grind (arith, nat_tests)

-- an element of another type begins no frame
pub other_type : (xs : List ℕ) → (nat_le 2 (octet xs 16) && nat_le (octet xs 16) 5) ≡ false → None ≡ kind_of (element_at xs 16)
unfolding element_at stands
other_type xs h = grind (arith, nat_tests)

first_is : (k : Kind) (xs : List ℕ) → Some k ≡ kind_of (element_at xs 16) → element_at xs 16 ≡ first_at k xs
unfolding element_at stands
first_is Test xs h = grind (arith, nat_tests)
first_is TopologyChange xs h = grind (arith, nat_tests)
first_is LinkDown xs h = grind (arith, nat_tests)
first_is LinkUp xs h = grind (arith, nat_tests)

size_is : (k : Kind) (xs : List ℕ) → span_of k ≡ size_of (first_at k xs) + 24
size_is Test xs = refl
size_is TopologyChange xs = refl
size_is LinkDown xs = refl
size_is LinkUp xs = refl

-- what the kind that a first element begins tells of the element and of the frame
pub kind_at : (k : Kind) (xs : List ℕ) → Some k ≡ kind_of (element_at xs 16) → KindAt k xs
kind_at k xs h =
    let e = first_is k xs h in
    record { element = e; kind = h; span = ap span_at h; address = ap address_at h; size = size_is k xs ∙ ap (λ x. size_of x + 24) (sym e) }
