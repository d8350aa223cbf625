-- The table of a table switch: what a changed entry and an added entry do.
use Rattle.std.specs.Prelude.{◌≡◌, ℕ, ◌+◌, ◌<◌, ◌≤◌, Bool, true, false, cond, List, [], ◌∷◌, ◌++◌, length, get_or, take, position, Some, None, Ok, Err, Option, option_map, is_some, ◌==◌, nat_lt, slice_set, refl}
use Rattle.std.proofs.Common.{length-take, get_or-take, sym, ◌∙◌, ap, subst, arith}
use Rattle.std.proofs.Math.Seq.{take-set-lt, map-set_same}
use Rattle.std.proofs.Math.Path.{fun_ext}
use Rattle.std.specs.List.{IsDistinct, find, slice_get}
use Rattle.std.specs.Option.{option_or}
use Rattle.std.specs.Str.{bytes_eq}
use Rattle.std.proofs.lemmas.Cmp.{nat_list_eq_equiv}
use Rattle.std.proofs.lemmas.List.{take_more_set, map-append}
use Rattle.std.proofs.lemmas.List.Folds.{find_at, find-set, find_past, find-append}
use Rattle.std.proofs.lemmas.List.Quantifiers.{position-Some}
use Rattle.std.proofs.lemmas.Option.{slice_get-get_or, slice_get_past}
use Rattle.std.proofs.lemmas.Map.Keys.{IsDistinct-push}
use Rattle.std.proofs.lemmas.Slice.Eq.{bytes_eq-Decides}
use Rattle.std.proofs.lemmas.Bool.{eq-eqb}
use Rattle.std.proofs.lemmas.Bool.Decides.{nat_tests}
use Rattle.switch.specs.declared.port.Port.{Port}
use Rattle.refusal.specs.declared.Refusal.TheVariants.{TableFull}
use Rattle.switch.specs.declared.port.PortState.{PortState}
use Rattle.table.specs.declared.entry.Entry.{Entry}
use Rattle.switch.specs.Addresses.{is_group}
use Rattle.switch.specs.Meanings.{Meaning}
use Rattle.switch.specs.Calls.{learned, learn_answer}
use Rattle.table.specs.Entries.{addresses, is_for, port_in, table_meaning}
use Rattle.table.specs.Owed.{found_among}

pub none_twice : IsDistinct {K = List ℕ} bytes_eq []
unfolding IsDistinct
none_twice = tt

-- what a search finds is at its place
place_first : (t : Bool) (n i : ℕ) → Some i ≡ cond t (Some n) None → i ≡ n
place_first true n i h = cc
place_first false n i h = cc

place_past : (t : Bool) (n m : ℕ) → nat_lt n m ≡ t → None ≡ cond t (Some n) None → m ≤ n
place_past true n m e h = cc
place_past false n m e h = grind (arith, nat_tests)

pub found_at : (p : Entry → Bool) (xs : List Entry) (i : ℕ) (d : Entry) → Some i ≡ position p xs → find p xs ≡ Some (get_or xs i d)
found_at p xs i d h = find_at p xs ∙ ap (slice_get xs) (sym (place_first _ _ i h)) ∙ slice_get-get_or xs i d (position-Some p xs i d (sym h)).0

pub not_found : (p : Entry → Bool) (xs : List Entry) → None ≡ position p xs → find p xs ≡ None
not_found p xs h = find_at p xs ∙ slice_get_past xs _ (place_past _ _ _ refl h)

-- an entry of one address is not that of another
other : (a b : List ℕ) (e : Entry) → bytes_eq a b ≡ false → is_for a e ≡ true → is_for b e ≡ false
other a b e s k = nat_list_eq_equiv.congr e.address.octets a b k ∙ s

-- a changed entry
changed_by : (t : Bool) (a b : List ℕ) (xs : List Entry) (i : ℕ) (e : Entry) → bytes_eq a b ≡ t → Some i ≡ position (is_for a) xs → is_for a e ≡ true → port_in (slice_set xs i e) b ≡ cond t (Some e.port) (port_in xs b)
changed_by true a b xs i e s h k =
    subst (λ (c : List ℕ). port_in (slice_set xs i e) c ≡ Some e.port) ((bytes_eq-Decides a b).0 s)
    (ap (option_map (λ (x : Entry). x.port)) (find-set (is_for a) xs i e (place_first _ _ i h) (position-Some (is_for a) xs i e (sym h)).0 k))
changed_by false a b xs i e s h k =
    ap (option_map (λ (x : Entry). x.port)) (find_past (is_for b) xs i e e (other a b (get_or xs i e) s (position-Some (is_for a) xs i e (sym h)).1) (other a b e s k))

or_none : (o : Option Entry) → option_or o None ≡ o
or_none None = refl
or_none (Some x) = refl

-- an added entry
added_by : (t : Bool) (a b : List ℕ) (xs : List Entry) (e : Entry) → bytes_eq a b ≡ t → find (is_for a) xs ≡ None → is_for a e ≡ true → port_in (xs ++ e ∷ []) b ≡ cond t (Some e.port) (port_in xs b)
added_by true a b xs e s h k =
    subst (λ (c : List ℕ). port_in (xs ++ e ∷ []) c ≡ Some e.port) ((bytes_eq-Decides a b).0 s) (rw (find-append (is_for a) xs (e ∷ []), h, k))
added_by false a b xs e s h k = rw (find-append (is_for b) xs (e ∷ []), other a b e s k, or_none (find (is_for b) xs))

hit_under : (p : Entry → Bool) (es : List Entry) (n i : ℕ) (d : Entry) → Some i ≡ position p (take n es) → i < n
hit_under p es n i d h = let r = (position-Some p (take n es) i d (sym h)).0 in let t = length-take n es in omega arith

-- a changed entry keeps all addresses, an added one adds its own
pub once_changed : (p : Entry → Bool) (es : List Entry) (n i : ℕ) (e d : Entry) → Some i ≡ position p (take n es) → e.address.octets ≡ (get_or es i d).address.octets → IsDistinct bytes_eq (addresses (take n es)) → IsDistinct bytes_eq (addresses (take n (slice_set es i e)))
once_changed p es n i e d h k o =
    let l : i < n = hit_under p es n i d h in
    rw (take-set-lt n es i e l, map-set_same (λ (x : Entry). x.address.octets) (take n es) i e d (k ∙ ap (λ (x : Entry). x.address.octets) (sym (get_or-take n es i d l)))) o

pub once_added : (es : List Entry) (n : ℕ) (e : Entry) → n < length es → None ≡ position (is_for e.address.octets) (take n es) → IsDistinct bytes_eq (addresses (take n es)) → IsDistinct bytes_eq (addresses (take (n + 1) (slice_set es n e)))
once_added es n e l h o =
    rw (take_more_set es n e l, map-append (λ (x : Entry). x.address.octets) (take n es) (e ∷ []))
    (IsDistinct-push nat_list_eq_equiv _ _ o (sym (found_among e.address.octets (take n es)) ∙ ap is_some (not_found (is_for e.address.octets) (take n es) h)))

-- learning, by the meaning
abbrev meaning_of : PortState → PortState → (List ℕ → Option Port) → ℕ → Meaning
meaning_of p q f n = record { first = p; second = q; known = f; count = n }

module _ (p q : PortState) (es : List Entry) (n : ℕ) (a : List ℕ) (single : is_group a ≡ false) where
  pub changed_answer : (i : ℕ) (e : Entry) → Some i ≡ position (is_for a) (take n es) → Ok tt ≡ learn_answer 64 a (table_meaning p q es n)
  changed_answer i e h = rw (single, found_at (is_for a) (take n es) i e h)

  pub changed_after : (i : ℕ) (r : Port) (d : Entry) → Some i ≡ position (is_for a) (take n es) → table_meaning p q (slice_set es i (record { address = (get_or es i d).address; port = r })) n ≡ learned 64 a r (table_meaning p q es n)
  changed_after i r d h =
      let e : Entry = record { address = (get_or es i d).address; port = r } in
      let l = hit_under (is_for a) es n i d h in
      let same : is_for a e ≡ true = ap (is_for a) (sym (get_or-take n es i d l)) ∙ (position-Some (is_for a) (take n es) i d (sym h)).1 in
      rw (single, found_at (is_for a) (take n es) i d h, take-set-lt n es i e l)
      (ap (λ (f : List ℕ → Option Port). meaning_of p q f n) (fun_ext (λ b. changed_by (bytes_eq a b) a b (take n es) i e refl h same)))

  pub full_answer : n ≡ 64 → None ≡ position (is_for a) (take n es) → Err TableFull ≡ learn_answer 64 a (table_meaning p q es n)
  full_answer k h = rw (single, not_found (is_for a) (take n es) h, eq-eqb n 64 k)

  pub full_after : (r : Port) → n ≡ 64 → None ≡ position (is_for a) (take n es) → table_meaning p q es n ≡ learned 64 a r (table_meaning p q es n)
  full_after r k h = rw (single, not_found (is_for a) (take n es) h, eq-eqb n 64 k)

  pub added_answer : ((n == 64) ≡ false) → None ≡ position (is_for a) (take n es) → Ok tt ≡ learn_answer 64 a (table_meaning p q es n)
  added_answer k h = rw (single, not_found (is_for a) (take n es) h, k)

  pub added_after : (e : Entry) → n < length es → ((n == 64) ≡ false) → is_for a e ≡ true → None ≡ position (is_for a) (take n es) → table_meaning p q (slice_set es n e) (n + 1) ≡ learned 64 a e.port (table_meaning p q es n)
  added_after e l k m h =
      rw (single, not_found (is_for a) (take n es) h, k, take_more_set es n e l)
      (ap (λ (f : List ℕ → Option Port). meaning_of p q f (n + 1)) (fun_ext (λ b. added_by (bytes_eq a b) a b (take n es) e refl (not_found (is_for a) (take n es) h) m)))
