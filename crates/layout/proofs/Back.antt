-- What is laid out from fields that have their values is read back as those fields.
use Rattle.std.proofs.Common.{◌≡◌, ℕ, zero, suc, ◌+◌, ◌*◌, ◌/◌, ◌%◌, ◌<◌, ◌≤◌, true, leb, List, [], ◌∷◌, ◌++◌, length, get_or, drop, replicate, sym, refl, ap, ◌∙◌, arith}
use Rattle.std.proofs.lemmas.Nat.{shr-shr, div-add-mod'}
use Rattle.std.proofs.lemmas.List.{length-replicate, drop_more, drop_all}
use Rattle.std.proofs.lemmas.Bool.{le-leb, leb-true}
use Rattle.layout.specs.Fields.{Part}
use Rattle.layout.specs.Elements.{Element, test, topology_change, link_down, link_up, element_at, stands, is_priority}
use Rattle.layout.specs.Reading.{reading, accepted, all_zero}
use Rattle.layout.specs.Layout.{encode}

abbrev placed : ℕ → List ℕ → Part
placed i xs = record { at = i; octets = xs }

two_back : (p : ℕ) → p < 65536 → p / 256 % 256 * 256 + p % 256 ≡ p
two_back p h = omega arith

-- zero octets are zero
padded : (k : ℕ) → all_zero (replicate k 0) ≡ true
padded zero = refl
padded (suc k) = padded k

four_lin : (p a b c p₀ a₀ b₀ c₀ : ℕ) → a * 256 + p₀ ≡ p → b * 256 + a₀ ≡ a → c * 256 + b₀ ≡ b → c₀ ≡ c → c₀ * 16777216 + b₀ * 65536 + a₀ * 256 + p₀ ≡ p
four_lin p a b c p₀ a₀ b₀ c₀ h i j k = omega arith

four_back : (p : ℕ) → p < 4294967296 → p / 16777216 % 256 * 16777216 + p / 65536 % 256 * 65536 + p / 256 % 256 * 256 + p % 256 ≡ p
four_back p h =
    let e : p / 256 / 256 ≡ p / 65536 = shr-shr p 8 8 in
    let f : p / 65536 / 256 ≡ p / 16777216 = shr-shr p 16 8 in
    let c : p / 16777216 % 256 ≡ p / 16777216 = omega arith in
    let y : p / 65536 * 256 + p / 256 % 256 ≡ p / 256 = ap (λ x. x * 256 + p / 256 % 256) (sym e) ∙ div-add-mod' (p / 256) 256 in
    let z : p / 16777216 * 256 + p / 65536 % 256 ≡ p / 65536 = ap (λ x. x * 256 + p / 65536 % 256) (sym f) ∙ div-add-mod' (p / 65536) 256 in
    four_lin p (p / 256) (p / 65536) (p / 16777216) (p % 256) (p / 256 % 256) (p / 65536 % 256) (p / 16777216 % 256) (div-add-mod' p 256) y z c

-- the n elements of a list from place i on, one by one
abbrev listed : ℕ → List ℕ → ℕ → List ℕ
listed zero xs i = []
listed (suc n) xs i = get_or xs i 0 ∷ listed n xs (i + 1)

all_listed : (n : ℕ) (xs : List ℕ) (i : ℕ) → length xs ≡ i + n → drop i xs ≡ listed n xs i
all_listed zero xs i h = drop_all i xs (omega arith)
all_listed (suc n) xs i h =
    let l : i < length xs = omega arith in
    drop_more xs i 0 l ∙ ap (λ rest. get_or xs i 0 ∷ rest) (all_listed n xs (i + 1) (omega arith))

-- what holds of any six, six and sixteen octets holds of lists of so many
of_parts : (P : List ℕ → List ℕ → List ℕ → Type 0) → ((a0 a1 a2 a3 a4 a5 x0 x1 x2 x3 x4 x5 d0 d1 d2 d3 d4 d5 d6 d7 d8 d9 d10 d11 d12 d13 d14 d15 : ℕ) → P (a0 ∷ a1 ∷ a2 ∷ a3 ∷ a4 ∷ a5 ∷ []) (x0 ∷ x1 ∷ x2 ∷ x3 ∷ x4 ∷ x5 ∷ []) (d0 ∷ d1 ∷ d2 ∷ d3 ∷ d4 ∷ d5 ∷ d6 ∷ d7 ∷ d8 ∷ d9 ∷ d10 ∷ d11 ∷ d12 ∷ d13 ∷ d14 ∷ d15 ∷ [])) →
    (s x d : List ℕ) → length s ≡ 6 → length x ≡ 6 → length d ≡ 16 → P s x d
of_parts P f s x d ls lx ld =
    let all = f (get_or s 0 0) (get_or s 1 0) (get_or s 2 0) (get_or s 3 0) (get_or s 4 0) (get_or s 5 0) (get_or x 0 0) (get_or x 1 0) (get_or x 2 0) (get_or x 3 0) (get_or x 4 0) (get_or x 5 0) (get_or d 0 0) (get_or d 1 0) (get_or d 2 0) (get_or d 3 0) (get_or d 4 0) (get_or d 5 0) (get_or d 6 0) (get_or d 7 0) (get_or d 8 0) (get_or d 9 0) (get_or d 10 0) (get_or d 11 0) (get_or d 12 0) (get_or d 13 0) (get_or d 14 0) (get_or d 15 0) in
    rw (all_listed 6 s 0 ls, all_listed 6 x 0 lx, all_listed 16 d 0 ld) all

-- a list of n octets and k more has m where n does, and no more than 60 where n and k are not
at_least : (m n k : ℕ) (xs : List ℕ) → length xs ≡ n + k → leb m n ≡ true → leb m (length xs) ≡ true
at_least m n k xs e h = let l = leb-true m n h in le-leb _ _ (omega arith)

at_most : (n k : ℕ) (xs : List ℕ) → length xs ≡ n + k → n + k ≤ 60 → leb (length xs) 60 ≡ true
at_most n k xs e h = le-leb _ _ (omega arith)

-- what is laid out from these fields, with k zero octets after it, is read back as they are
abbrev pub Back : Part → Element → ℕ → Part → ℕ → Type 0
Back s e n d k = reading (encode s e n d ++ replicate k 0) ≡ accepted s e n d

pub test_back : (s x d : List ℕ) (p r t m c n k : ℕ) → length s ≡ 6 → length x ≡ 6 → length d ≡ 16 → p < 65536 → r < 65536 → t < 65536 → m < 65536 → c < 4294967296 → is_priority p ≡ true → leb r 1 ≡ true → leb t 1 ≡ true → n < 65536 → 58 + k ≤ 60 →
    Back (placed 6 s) (test p (placed 20 x) r t m c) n (placed 40 d) k
unfolding element_at stands
test_back s x d p r t m c n k ls lx ld hp hr ht hm hc v w y hn hk =
    let zeros : length (replicate {A = ℕ} k 0) ≡ k = length-replicate k 0 in
    of_parts (λ s x d. Back (placed 6 s) (test p (placed 20 x) r t m c) n (placed 40 d) k) (λ a0 a1 a2 a3 a4 a5 x0 x1 x2 x3 x4 x5 d0 d1 d2 d3 d4 d5 d6 d7 d8 d9 d10 d11 d12 d13 d14 d15.
    let xs = encode (placed 6 (a0 ∷ a1 ∷ a2 ∷ a3 ∷ a4 ∷ a5 ∷ [])) (test p (placed 20 (x0 ∷ x1 ∷ x2 ∷ x3 ∷ x4 ∷ x5 ∷ [])) r t m c) n (placed 40 (d0 ∷ d1 ∷ d2 ∷ d3 ∷ d4 ∷ d5 ∷ d6 ∷ d7 ∷ d8 ∷ d9 ∷ d10 ∷ d11 ∷ d12 ∷ d13 ∷ d14 ∷ d15 ∷ [])) ++ replicate k 0 in
    let size : length xs ≡ 58 + k = omega arith in
    simp (at_least 50 58 k xs size refl, at_least 36 58 k xs size refl, at_least 58 58 k xs size refl, at_least 56 58 k xs size refl, at_most 58 k xs size hk, padded k, two_back p hp, two_back r hr, two_back t ht, two_back m hm, four_back c hc, v, w, y, two_back n hn)) s x d ls lx ld

pub change_back : (s x d : List ℕ) (p i n k : ℕ) → length s ≡ 6 → length x ≡ 6 → length d ≡ 16 → p < 65536 → i < 65536 → is_priority p ≡ true → n < 65536 → 50 + k ≤ 60 →
    Back (placed 6 s) (topology_change p (placed 20 x) i) n (placed 32 d) k
unfolding element_at stands
change_back s x d p i n k ls lx ld hp hi v hn hk =
    let zeros : length (replicate {A = ℕ} k 0) ≡ k = length-replicate k 0 in
    of_parts (λ s x d. Back (placed 6 s) (topology_change p (placed 20 x) i) n (placed 32 d) k) (λ a0 a1 a2 a3 a4 a5 x0 x1 x2 x3 x4 x5 d0 d1 d2 d3 d4 d5 d6 d7 d8 d9 d10 d11 d12 d13 d14 d15.
    let xs = encode (placed 6 (a0 ∷ a1 ∷ a2 ∷ a3 ∷ a4 ∷ a5 ∷ [])) (topology_change p (placed 20 (x0 ∷ x1 ∷ x2 ∷ x3 ∷ x4 ∷ x5 ∷ [])) i) n (placed 32 (d0 ∷ d1 ∷ d2 ∷ d3 ∷ d4 ∷ d5 ∷ d6 ∷ d7 ∷ d8 ∷ d9 ∷ d10 ∷ d11 ∷ d12 ∷ d13 ∷ d14 ∷ d15 ∷ [])) ++ replicate k 0 in
    let size : length xs ≡ 50 + k = omega arith in
    simp (at_least 50 50 k xs size refl, at_least 28 50 k xs size refl, at_least 48 50 k xs size refl, at_most 50 k xs size hk, padded k, two_back p hp, two_back i hi, v, two_back n hn)) s x d ls lx ld

-- LinkDown and LinkUp, which differ in their type
pub link_back : (s x d : List ℕ) (r i b n k : ℕ) → length s ≡ 6 → length x ≡ 6 → length d ≡ 16 → r < 65536 → i < 65536 → b < 65536 → leb r 1 ≡ true → leb b 1 ≡ true → n < 65536 → 52 + k ≤ 60 →
    (Back (placed 6 s) (link_down (placed 18 x) r i b) n (placed 34 d) k) × (Back (placed 6 s) (link_up (placed 18 x) r i b) n (placed 34 d) k)
unfolding element_at stands
link_back s x d r i b n k ls lx ld hr hi hb w y hn hk =
    let zeros : length (replicate {A = ℕ} k 0) ≡ k = length-replicate k 0 in
    of_parts (λ s x d. (Back (placed 6 s) (link_down (placed 18 x) r i b) n (placed 34 d) k) × (Back (placed 6 s) (link_up (placed 18 x) r i b) n (placed 34 d) k)) (λ a0 a1 a2 a3 a4 a5 x0 x1 x2 x3 x4 x5 d0 d1 d2 d3 d4 d5 d6 d7 d8 d9 d10 d11 d12 d13 d14 d15.
    let xs = encode (placed 6 (a0 ∷ a1 ∷ a2 ∷ a3 ∷ a4 ∷ a5 ∷ [])) (link_down (placed 18 (x0 ∷ x1 ∷ x2 ∷ x3 ∷ x4 ∷ x5 ∷ [])) r i b) n (placed 34 (d0 ∷ d1 ∷ d2 ∷ d3 ∷ d4 ∷ d5 ∷ d6 ∷ d7 ∷ d8 ∷ d9 ∷ d10 ∷ d11 ∷ d12 ∷ d13 ∷ d14 ∷ d15 ∷ [])) ++ replicate k 0 in
    let size : length xs ≡ 52 + k = omega arith in
    let l₀ = at_least 50 52 k xs size refl in
    let l₁ = at_least 30 52 k xs size refl in
    let l₂ = at_least 52 52 k xs size refl in
    let most = at_most 52 k xs size hk in
    (simp (l₀, l₁, l₂, most, padded k, two_back r hr, two_back i hi, two_back b hb, w, y, two_back n hn), simp (l₀, l₁, l₂, most, padded k, two_back r hr, two_back i hi, two_back b hb, w, y, two_back n hn))) s x d ls lx ld
