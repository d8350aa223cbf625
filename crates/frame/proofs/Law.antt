-- A frame that passed the checks of its head is read on, and what is read is laid out as the law says.
use Rattle.std.proofs.Common.{◌≡◌, ℕ, ◌+◌, ◌<◌, true, List, get_or, is_some, sym, refl, ap, ◌∙◌, subst}
use Rattle.std.proofs.ByRecursion.{All-from_get_or}
use Rattle.std.proofs.lemmas.Bool.{eq-eqb}
use Rattle.kind.specs.Kinds.{destination_of}
use Rattle.layout.specs.Elements.{element_at}
use Rattle.layout.specs.Reading.{Head, head_of, is_sized, Reading, reading, read_first, read_head}
use Rattle.layout.specs.Layout.{LaidOut}
use Rattle.layout.proofs.Laid.{accepted_laid_out}

pub past_head : (xs : List ℕ) (h : Head) → is_sized xs ≡ true → h ≡ head_of xs → is_some (destination_of h.destination.octets) ≡ true → h.ether_type ≡ 0x88E3 → h.version ≡ 1 →
    read_first xs h (element_at xs (h.version_at + 2)) ≡ reading xs
past_head xs h sized head to type version =
    let read : read_head xs h ≡ read_first xs h (element_at xs (h.version_at + 2)) = rw (to, eq-eqb h.ether_type 0x88E3 type, eq-eqb h.version 1 version) refl in
    let all : reading xs ≡ read_head xs (head_of xs) = rw sized refl in
    sym (all ∙ ap (read_head xs) (sym head) ∙ read)

pub laid_out : (xs : List ℕ) (r : Reading) → ((i : ℕ) → get_or xs i 0 < 256) → r ≡ reading xs → LaidOut xs r
laid_out xs r octets e = subst (LaidOut xs) (sym e) (accepted_laid_out xs (All-from_get_or (λ x. x < 256) xs 0 (λ i _. octets i)))
