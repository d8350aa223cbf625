-- What every kind of switch owes holds of the table.
use Rattle.std.specs.Prelude.{◌≡◌, ℕ, ◌≤◌, Bool, true, false, cond, ◌||◌, List, [], ◌∷◌, length, take, Some, None, Option, option_map, is_some, refl}
use Rattle.std.specs.List.{IsDistinct, find}
use Rattle.std.specs.Set.{is_member}
use Rattle.std.proofs.Common.{length-take-le, subst, sym, ◌∙◌, ap, arith}
use Rattle.std.specs.Str.{bytes_eq}
use Rattle.std.proofs.lemmas.List.{length-map}
use Rattle.std.proofs.lemmas.Cmp.{nat_list_eq_equiv}
use Rattle.std.proofs.lemmas.Slice.Eq.{bytes_eq-Decides}
use Rattle.switch.specs.declared.port.PortState.{PortState}
use Rattle.table.specs.declared.entry.Entry.{Entry}
use Rattle.switch.specs.Addresses.{is_address}
use Rattle.switch.specs.Meanings.{Meaning, Counted, Sound}
use Rattle.table.specs.Entries.{addresses, is_for, port_in, table_meaning}

-- a search by the address, and in the list of addresses
found_by : (t : Bool) (e : Entry) (o : Option Entry) {r : Bool} → is_some o ≡ r → is_some (cond t (Some e) o) ≡ t || r
found_by true e o h = refl
found_by false e o h = h

pub found_among : (a : List ℕ) (es : List Entry) → is_some (find (is_for a) es) ≡ is_member bytes_eq (addresses es) a
found_among a [] = refl
found_among a (e ∷ es) = rw (nat_list_eq_equiv.symm a e.address.octets) (found_by (is_for a e) e (find (is_for a) es) (found_among a es))

is_some_map : (o : Option Entry) → is_some (option_map (λ (e : Entry). e.port) o) ≡ is_some o
is_some_map None = refl
is_some_map (Some e) = refl

known_among : (a : List ℕ) (es : List Entry) → is_some (port_in es a) ≡ is_member bytes_eq (addresses es) a
known_among a es = is_some_map (find (is_for a) es) ∙ found_among a es

length_addresses : (es : List Entry) → length (addresses es) ≡ length es
length_addresses es = length-map _ _

table_counted : (m : Meaning) (es : List Entry) → IsDistinct bytes_eq (addresses es) → m.count ≡ length es → ((a : List ℕ) → m.known a ≡ port_in es a) → Counted m (addresses es)
table_counted m es h k f = record { once = h; many = length_addresses es ∙ sym k; all = λ a. ap is_some (f a) ∙ known_among a es }

-- only addresses are known
real_by : (t : Bool) (a : List ℕ) (e : Entry) (o : Option Entry) → is_for a e ≡ t → is_address a ≡ false → option_map (λ (x : Entry). x.port) o ≡ None → option_map (λ (x : Entry). x.port) (cond t (Some e) o) ≡ None
real_by true a e o same odd rest = let six : is_address a ≡ true = subst (λ (b : List ℕ). is_address b ≡ true) ((bytes_eq-Decides e.address.octets a).0 same) e.address.six in cc
real_by false a e o same odd rest = rest

only_real : (es : List Entry) (a : List ℕ) → is_address a ≡ false → port_in es a ≡ None
only_real [] a h = refl
only_real (e ∷ es) a h = real_by (is_for a e) a e (find (is_for a) es) refl h (only_real es a h)

pub table_sound : (p q : PortState) (es : List Entry) (n : ℕ) → length es ≡ 64 → n ≤ 64 → IsDistinct bytes_eq (addresses (take n es)) → Sound 64 (table_meaning p q es n)
table_sound p q es n whole few once =
    let many = length-take-le n es (omega arith) in
    record { few = few; real = only_real (take n es); listed = ∣ (_, table_counted _ _ once (sym many) (λ a. refl)) ∣₁ }
