-- Every accepted list of octets is the frame of its fields, and then zero octets.
use Rattle.std.proofs.Common.{◌≡◌, ℕ, ◌+◌, ◌≤◌, Bool, true, false, cond, eqb, leb, List, ◌++◌, length, take, drop, is_some, sym, refl, ap, ◌∙◌, arith}
use Rattle.std.specs.Str.{bytes_eq}
use Rattle.std.proofs.lemmas.List.{take-append-drop}
use Rattle.std.proofs.lemmas.Slice.Eq.{bytes_eq-Decides}
use Rattle.std.proofs.lemmas.Bool.{eqb-true, leb-true, and_parts, false≢true}
use Rattle.kind.specs.Kinds.{destination_of}
use Rattle.layout.specs.Fields.{word16, part}
use Rattle.layout.specs.Elements.{Element, test, topology_change, link_down, link_up, common, end, none, stands, test_at, topology_change_at, link_down_at, link_up_at, common_at, element_at, size_of, kind_of, span_at, address_at, in_values}
use Rattle.layout.specs.Reading.{Reading, accepted, check, is_sized, head_of, all_zero, read_end, read_first, read_head}
use Rattle.layout.specs.Layout.{two, link_octets, octets_of, encode, LaidOut, AcceptedLaidOut}
use Rattle.layout.proofs.Spelled.{Spells, join, Octets, part_of, two_of, four_of, Stood, stood, zeros_are}

-- the octets of an element stand where it was read
abbrev Laid : List ℕ → ℕ → Element → Type 0
Laid xs i e = Spells xs i (size_of e) (octets_of e)

test_laid : (xs : List ℕ) (i : ℕ) → Octets xs → Stood xs i 2 18 → Laid xs i (test_at xs i)
test_laid xs i a s =
    let r = s.room in
    join (join (join (join (join (join s.head (two_of xs (i + 2) a (omega arith))) (part_of xs (i + 4) 6)) (two_of xs (i + 10) a (omega arith))) (two_of xs (i + 12) a (omega arith))) (two_of xs (i + 14) a (omega arith))) (four_of xs (i + 16) a (omega arith))

topology_change_laid : (xs : List ℕ) (i : ℕ) → Octets xs → Stood xs i 3 10 → Laid xs i (topology_change_at xs i)
topology_change_laid xs i a s =
    let r = s.room in
    join (join (join s.head (two_of xs (i + 2) a (omega arith))) (part_of xs (i + 4) 6)) (two_of xs (i + 10) a (omega arith))

link_laid : (xs : List ℕ) (i t : ℕ) → Octets xs → Stood xs i t 12 → Spells xs i 14 (link_octets t (part xs (i + 2) 6).octets (word16 xs (i + 8)) (word16 xs (i + 10)) (word16 xs (i + 12)))
link_laid xs i t a s =
    let r = s.room in
    join (join (join (join s.head (part_of xs (i + 2) 6)) (two_of xs (i + 8) a (omega arith))) (two_of xs (i + 10) a (omega arith))) (two_of xs (i + 12) a (omega arith))

common_laid : (xs : List ℕ) (i : ℕ) → Octets xs → Stood xs i 1 18 → Laid xs i (common_at xs i)
common_laid xs i a s =
    let r = s.room in
    join (join s.head (two_of xs (i + 2) a (omega arith))) (part_of xs (i + 4) 16)

chosen : (P : Element → Type 0) (b : Bool) (x y : Element) → (b ≡ true → P x) → P y → P (cond b x y)
chosen P true x y f p = f refl
chosen P false x y f p = p

element_laid : (xs : List ℕ) (i : ℕ) → Octets xs → Laid xs i (element_at xs i)
unfolding element_at
element_laid xs i a =
    let e₀ = cond (stands xs i 0 0) end none in
    let e₁ = cond (stands xs i 1 18) (common_at xs i) e₀ in
    let e₂ = cond (stands xs i 5 12) (link_up_at xs i) e₁ in
    let e₃ = cond (stands xs i 4 12) (link_down_at xs i) e₂ in
    let e₄ = cond (stands xs i 3 10) (topology_change_at xs i) e₃ in
    let P : Element → Type 0 = λ e. Laid xs i e in
    chosen P (stands xs i 2 18) (test_at xs i) e₄ (λ h. test_laid xs i a (stood xs i 2 18 h))
    (chosen P (stands xs i 3 10) (topology_change_at xs i) e₃ (λ h. topology_change_laid xs i a (stood xs i 3 10 h))
    (chosen P (stands xs i 4 12) (link_down_at xs i) e₂ (λ h. link_laid xs i 4 a (stood xs i 4 12 h))
    (chosen P (stands xs i 5 12) (link_up_at xs i) e₁ (λ h. link_laid xs i 5 a (stood xs i 5 12 h))
    (chosen P (stands xs i 1 18) (common_at xs i) e₀ (λ h. common_laid xs i a (stood xs i 1 18 h))
    (chosen P (stands xs i 0 0) end none (λ h. (stood xs i 0 0 h).head) (record { is = refl }))))))

-- the first element, Common and End make up the span
span_is : (e : Element) → is_some (kind_of e) ≡ true → span_at (kind_of e) ≡ size_of e + 24
span_is (test p s r t n c) h = refl
span_is (topology_change p s i) h = refl
span_is (link_down s r i b) h = refl
span_is (link_up s r i b) h = refl
span_is (common n d) h = absurd (false≢true h)
span_is end h = absurd (false≢true h)
span_is none h = absurd (false≢true h)

moved : {xs zs : List ℕ} {m i : ℕ} (j : ℕ) → Spells xs i m zs → i ≡ j → Spells xs j m zs
moved {xs} {zs} {m} {i} j s e = record { is = ap (λ k. take m (drop k xs)) (sym e) ∙ s.is }

-- a number in two octets that is known
known : (xs : List ℕ) (i n : ℕ) → Octets xs → i + 2 ≤ length xs → word16 xs i ≡ n → Spells xs i 2 (two n)
known xs i n a l e = record { is = (two_of xs i a l).is ∙ ap two e }

-- what all checks together say of the octets
whole : (xs : List ℕ) (e : Element) (c : ℕ) → Octets xs → 50 ≤ length xs → bytes_eq (part xs 0 6).octets (address_at (kind_of e)) ≡ true →
    word16 xs 12 ≡ 0x88E3 → word16 xs 14 ≡ 1 → is_some (kind_of e) ≡ true → Laid xs 16 e → c ≡ 16 + size_of e → Stood xs c 1 18 → Stood xs (c + 20) 0 0 →
    all_zero (drop (14 + span_at (kind_of e)) xs) ≡ true → LaidOut xs (accepted (part xs 6 6) e (word16 xs (c + 2)) (part xs (c + 4) 16))
whole xs e c a l to t v k first at common-stood end-stood z =
    let destination : Spells xs 0 6 (address_at (kind_of e)) = record { is = (bytes_eq-Decides (take 6 (drop 0 xs)) (address_at (kind_of e))).0 to } in
    let type : Spells xs 12 2 (two 0x88E3) = known xs 12 0x88E3 a (omega arith) t in
    let version : Spells xs 14 2 (two 1) = known xs 14 1 a (omega arith) v in
    let head = join (join (join destination (part_of xs 6 6)) type) version in
    let s = span_is e k in
    let p : c ≡ 0 + (16 + size_of e) = omega arith in
    let q : c + 20 ≡ 0 + (16 + size_of e + 20) = omega arith in
    let all = join (join (join head first) (moved (0 + (16 + size_of e)) (common_laid xs c a common-stood) p)) (moved (0 + (16 + size_of e + 20)) end-stood.head q) in
    let n : 16 + size_of e + 20 + 2 ≡ 14 + span_at (kind_of e) = omega arith in
    let front : take (14 + span_at (kind_of e)) xs ≡ encode (part xs 6 6) e (word16 xs (c + 2)) (part xs (c + 4) 16) = ap (λ m. take m xs) (sym n) ∙ all.is in (
      length (drop (14 + span_at (kind_of e)) xs),
      sym (take-append-drop (14 + span_at (kind_of e)) xs) ∙ ap (λ y. y ++ drop (14 + span_at (kind_of e)) xs) front
          ∙ ap (λ y. encode (part xs 6 6) e (word16 xs (c + 2)) (part xs (c + 4) 16) ++ y) (zeros_are (drop (14 + span_at (kind_of e)) xs) z),
    )

-- a check that does not hold is a refusal, of which nothing is said
passes : (xs : List ℕ) (b : Bool) (n : ℕ) (next : Reading) → (b ≡ true → LaidOut xs next) → LaidOut xs (check b n next)
passes xs true n next f = f refl
passes xs false n next f = tt

pub accepted_laid_out : AcceptedLaidOut
accepted_laid_out xs a =
    let h = head_of xs in
    let e = element_at xs 16 in
    let c = 16 + size_of e in
    let frame = accepted (part xs 6 6) e (word16 xs (c + 2)) (part xs (c + 4) 16) in
    let zero = check (all_zero (drop (14 + span_at (kind_of e)) xs)) 11 frame in
    let ended = check (stands xs (c + 20) 0 0) 10 zero in
    let address = check (bytes_eq (part xs 0 6).octets (address_at (kind_of e))) 7 (check (in_values e) 8 (read_end xs h e c)) in
    passes xs (is_sized xs) 1 (read_head xs h) (λ sized.
    passes xs (is_some (destination_of (part xs 0 6).octets)) 2 (check (eqb (word16 xs 12) 0x88E3) 3 (check (eqb (word16 xs 14) 1) 4 (read_first xs h e))) (λ _.
    passes xs (eqb (word16 xs 12) 0x88E3) 3 (check (eqb (word16 xs 14) 1) 4 (read_first xs h e)) (λ t.
    passes xs (eqb (word16 xs 14) 1) 4 (read_first xs h e) (λ v.
    passes xs (is_some (kind_of e)) 5 (check (leb (14 + span_at (kind_of e)) (length xs)) 6 address) (λ k.
    passes xs (leb (14 + span_at (kind_of e)) (length xs)) 6 address (λ _.
    passes xs (bytes_eq (part xs 0 6).octets (address_at (kind_of e))) 7 (check (in_values e) 8 (read_end xs h e c)) (λ to.
    passes xs (in_values e) 8 (read_end xs h e c) (λ _.
    passes xs (stands xs c 1 18) 9 ended (λ common-stands.
    passes xs (stands xs (c + 20) 0 0) 10 zero (λ end-stands.
    passes xs (all_zero (drop (14 + span_at (kind_of e)) xs)) 11 frame (λ z.
    whole xs e c a (leb-true 50 (length xs) (and_parts (leb 50 (length xs)) (leb (length xs) 60) sized).0) to
    (eqb-true (word16 xs 12) 0x88E3 t) (eqb-true (word16 xs 14) 1 v) k (element_laid xs 16 a) refl (stood xs c 1 18 common-stands) (stood xs (c + 20) 0 0 end-stands) z)))))))))))
