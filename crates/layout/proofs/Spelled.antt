-- Octets of a list that are known: how stretches join, and what the fields of an element spell.
use Rattle.std.proofs.Common.{◌≡◌, ℕ, ◌+◌, ◌/◌, ◌%◌, ◌<◌, ◌≤◌, true, ◌&&◌, eqb, leb, List, [], ◌∷◌, ◌++◌, length, get_or, take, drop, replicate, refl, ap, ◌∙◌, arith}
use Rattle.std.specs.List.{AllByRecursion}
use Rattle.std.proofs.lemmas.List.{drop-drop, drop_more}
use Rattle.std.proofs.Math.Seq.{take-add}
use Rattle.std.proofs.ByRecursion.{All-get_or}
use Rattle.std.proofs.lemmas.Bool.{eqb-true, leb-true, and_parts}
use Rattle.layout.specs.Fields.{word16, word32, part}
use Rattle.layout.specs.Elements.{stands}
use Rattle.layout.specs.Reading.{all_zero}
use Rattle.layout.specs.Layout.{two, four}

-- from place i on the list has n octets ys
pub record Spells (xs : List ℕ) (i n : ℕ) (ys : List ℕ) : Type 0 where
  pub is : take n (drop i xs) ≡ ys

-- a stretch and the one after it are one
pub join : {xs ys zs : List ℕ} {i n m : ℕ} → Spells xs i n ys → Spells xs (i + n) m zs → Spells xs i (n + m) (ys ++ zs)
join {xs} {ys} {zs} {i} {n} {m} p q =
    record { is = take-add n m (drop i xs) ∙ ap (λ t. t ++ take m (drop n (drop i xs))) p.is ∙ ap (λ t. ys ++ take m t) (drop-drop n i xs) ∙ ap (λ t. ys ++ t) q.is }

-- all are octets
abbrev pub Octets : List ℕ → Type 0
Octets xs = AllByRecursion (λ x. x < 256) xs

octet_at : (xs : List ℕ) (i : ℕ) → Octets xs → i < length xs → get_or xs i 0 < 256
octet_at xs i a h = All-get_or (λ x. x < 256) xs i 0 h a

-- one octet, and any n
one_of : (xs : List ℕ) (i : ℕ) → i < length xs → Spells xs i 1 (get_or xs i 0 ∷ [])
one_of xs i h = record { is = rw (drop_more xs i 0 h) refl }

pub part_of : (xs : List ℕ) (i n : ℕ) → Spells xs i n (part xs i n).octets
part_of xs i n = record { is = refl }

-- a number of two octets
pub two_of : (xs : List ℕ) (i : ℕ) → Octets xs → i + 2 ≤ length xs → Spells xs i 2 (two (word16 xs i))
two_of xs i a h =
    let p : i < length xs = omega arith in
    let q : i + 1 < length xs = omega arith in
    let x = octet_at xs i a p in
    let y = octet_at xs (i + 1) a q in
    let hi : word16 xs i / 256 % 256 ≡ get_or xs i 0 = omega arith in
    let lo : word16 xs i % 256 ≡ get_or xs (i + 1) 0 = omega arith in
    rw (hi, lo) (join (one_of xs i p) (one_of xs (i + 1) q))

-- a number of four octets
pub four_of : (xs : List ℕ) (i : ℕ) → Octets xs → i + 4 ≤ length xs → Spells xs i 4 (four (word32 xs i))
four_of xs i a h =
    let p : i < length xs = omega arith in
    let q : i + 1 < length xs = omega arith in
    let r : i + 2 < length xs = omega arith in
    let s : i + 3 < length xs = omega arith in
    let x = octet_at xs i a p in
    let y = octet_at xs (i + 1) a q in
    let z = octet_at xs (i + 2) a r in
    let w = octet_at xs (i + 3) a s in
    let a₁ : word32 xs i / 16777216 % 256 ≡ get_or xs i 0 = omega arith in
    let a₂ : word32 xs i / 65536 % 256 ≡ get_or xs (i + 1) 0 = omega arith in
    let a₃ : word32 xs i / 256 % 256 ≡ get_or xs (i + 2) 0 = omega arith in
    let a₄ : word32 xs i % 256 ≡ get_or xs (i + 3) 0 = omega arith in
    rw (a₁, a₂, a₃, a₄) (join (join (join (one_of xs i p) (one_of xs (i + 1) q)) (one_of xs (i + 2) r)) (one_of xs (i + 3) s))

-- the type and the length of an element, which then has room for its content
pub record Stood (xs : List ℕ) (i t n : ℕ) : Type 0 where
  pub head : Spells xs i 2 (t ∷ n ∷ [])
  pub room : i + 2 + n ≤ length xs

pub stood : (xs : List ℕ) (i t n : ℕ) → stands xs i t n ≡ true → Stood xs i t n
unfolding stands
stood xs i t n h =
    let p = and_parts (eqb (get_or xs i 0) t) (eqb (get_or xs (i + 1) 0) n && leb (i + 2 + n) (length xs)) h in
    let q = and_parts (eqb (get_or xs (i + 1) 0) n) (leb (i + 2 + n) (length xs)) p.1 in
    let l = leb-true (i + 2 + n) (length xs) q.1 in
    let x : i < length xs = omega arith in
    let y : i + 1 < length xs = omega arith in
    record { head = rw (← eqb-true (get_or xs i 0) t p.0, ← eqb-true (get_or xs (i + 1) 0) n q.0) (join (one_of xs i x) (one_of xs (i + 1) y)); room = l }

-- zero octets are just that
pub zeros_are : (xs : List ℕ) → all_zero xs ≡ true → xs ≡ replicate (length xs) 0
zeros_are [] h = refl
zeros_are (x ∷ xs) h =
    let p = and_parts (eqb x 0) (all_zero xs) h in
    let z : x ≡ 0 = eqb-true x 0 p.0 in
    rw z (ap (λ t. 0 ∷ t) (zeros_are xs p.1))
