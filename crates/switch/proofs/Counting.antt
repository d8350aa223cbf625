-- The laws of the count, from what every kind owes.
use Rattle.std.proofs.Common.{◌≡◌, ℕ, ◌≤◌, Bool, true, false, List, Option, is_some, sym, refl, ap, ◌∙◌, arith}
use Rattle.std.proofs.Math.Logic.{∥∥₁_elim}
use Rattle.std.proofs.Math.Path.{fun_ext}
use Rattle.std.proofs.Math.Bridge.{le_prop}
use Rattle.std.proofs.Math.Nat.{le_refl}
use Rattle.std.proofs.lemmas.Cmp.{nat_list_eq_equiv}
use Rattle.std.proofs.lemmas.Map.Made.{length-le_from_is_member}
use Rattle.switch.specs.declared.port.Port.{Port}
use Rattle.switch.specs.declared.port.Port.TheVariants.{One, Two}
use Rattle.switch.specs.declared.port.PortState.{PortState}
use Rattle.switch.specs.Addresses.{is_address}
use Rattle.switch.specs.Meanings.{Meaning, Sound}
use Rattle.switch.specs.Laws.{WithinRoom, SameAnswers}

pub within_room : (k : ℕ) (m : Meaning) → Sound k m → WithinRoom k m
within_room k m s xs once known =
    ∥∥₁_elim s.listed le_prop (λ l.
    let r = length-le_from_is_member nat_list_eq_equiv xs l.0 once (λ a h. sym (l.1.all a) ∙ known a h) in
    let e = l.1.many in
    let f = s.few in
    omega arith)

-- addresses known to one are no more than are known to another that knows them all
count_within : (j k : ℕ) (m n : Meaning) → Sound j m → Sound k n → ((a : List ℕ) → is_some (m.known a) ≡ true → is_some (n.known a) ≡ true) → m.count ≤ n.count
count_within j k m n s t f =
    ∥∥₁_elim s.listed le_prop (λ l.
    let r = within_room n.count n (record { few = le_refl n.count; real = t.real; listed = t.listed }) l.0 l.1.once (λ a h. f a (l.1.all a ∙ h)) in
    let e = l.1.many in
    omega arith)

known_same : (b : Bool) (j k : ℕ) (m n : Meaning) (a : List ℕ) → is_address a ≡ b → Sound j m → Sound k n → ((a : List ℕ) → is_address a ≡ true → n.known a ≡ m.known a) → m.known a ≡ n.known a
known_same true j k m n a e s t f = sym (f a e)
known_same false j k m n a e s t f = s.real a e ∙ sym (t.real a e)

joined : {p q r s : PortState} {f g : List ℕ → Option Port} {x y : ℕ} → p ≡ r → q ≡ s → f ≡ g → x ≡ y → ◌≡◌ {A = Meaning} (record { first = p; second = q; known = f; count = x }) (record { first = r; second = s; known = g; count = y })
joined a b c d = cc

pub same_answers : SameAnswers
same_answers j k m n s t ports f =
    let known : (a : List ℕ) → m.known a ≡ n.known a = λ a. known_same (is_address a) j k m n a refl s t f in
    let up = count_within j k m n s t (λ a h. sym (ap is_some (known a)) ∙ h) in
    let down = count_within k j n m t s (λ a h. ap is_some (known a) ∙ h) in
    joined (sym (ports One)) (sym (ports Two)) (fun_ext known) (omega arith)
