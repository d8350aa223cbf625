-- The words of a text are its parts between spaces that are not empty.
use Rattle.std.proofs.Common.{◌≡◌, ℕ, ◌+◌, Bool, true, false, cond, not, eqb, List, [], ◌∷◌, length, drop, refl, ap, ◌∙◌, arith}
use Rattle.std.specs.List.{count_by, slice_split, onto_first}
use Rattle.std.proofs.lemmas.Bool.Decides.{nat_tests}
use Rattle.std.proofs.lemmas.List.Sums.{sum_by-cons}
use Rattle.words.specs.Cuts.{is_space, words_after}

abbrev pub filled : List ℕ → Bool
filled part = not (eqb (length part) 0)

counts : (x : ℕ) (part : List ℕ) → ◌≡◌ {A = ℕ} (cond (filled (x ∷ part)) 1 0) 1
counts x part = grind (arith, nat_tests)

-- one more character, which is a space or not, where w says how many words follow a space or something else
one : (b : Bool) (x : ℕ) (parts : List (List ℕ)) (w : Bool → ℕ) → count_by filled parts ≡ w true → count_by filled (drop 1 parts) ≡ w false
    → (count_by filled (cond b ([] ∷ parts) (onto_first x parts)) ≡ cond (not b) 1 0 + w b) × (count_by filled (drop 1 (cond b ([] ∷ parts) (onto_first x parts))) ≡ 0 + w b)
one true x parts w all rest = (sum_by-cons (λ y. cond (filled y) 1 0) [] parts ∙ ap (λ n. 0 + n) all, all ∙ omega arith)
one false x [] w all rest = (sum_by-cons (λ y. cond (filled y) 1 0) (x ∷ []) [] ∙ ap (λ n. 1 + n) rest, rest ∙ omega arith)
one false x (part ∷ parts) w all rest = (sum_by-cons (λ y. cond (filled y) 1 0) (x ∷ part) parts ∙ ap (λ n. n + count_by filled parts) (counts x part) ∙ ap (λ n. 1 + n) rest, rest ∙ omega arith)

both : (text : List ℕ) → (count_by filled (slice_split is_space text) ≡ words_after true text) × (count_by filled (drop 1 (slice_split is_space text)) ≡ words_after false text)
both [] = (refl, refl)
both (x ∷ xs) = let more = both xs in one (is_space x) x (slice_split is_space xs) (λ b. words_after b xs) more.0 more.1

pub filled_parts : (text : List ℕ) → count_by filled (slice_split is_space text) ≡ words_after true text
filled_parts text = (both text).0
