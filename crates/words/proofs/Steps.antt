-- How the definitions go on from one character to the next.
use Rattle.std.proofs.Common.{◌≡◌, ℕ, ◌+◌, ◌-◌, ◌*◌, ◌<◌, Bool, true, false, cond, ◌&&◌, leb, List, [], ◌∷◌, length, get_or, drop, Some, None, sym, refl, ap, ◌∙◌, arith}
use Rattle.std.specs.Char.{digit_value}
use Rattle.std.specs.Option.{option_map}
use Rattle.std.proofs.lemmas.List.{at_drop_more}
use Rattle.std.proofs.lemmas.Bool.Decides.{nat_tests}
use Rattle.words.specs.Numbers.{digits_after, capped}

one : (b : Bool) (n d : ℕ) (xs : List ℕ) → ((k : ℕ) → option_map capped (digits_after k xs) ≡ option_map capped (digits_after (capped k) xs)) → option_map capped (cond b (digits_after (10 * n + d) xs) None) ≡ option_map capped (cond b (digits_after (10 * capped n + d) xs) None)
one true n d xs more =
    let cut : capped (10 * n + d) ≡ capped (10 * capped n + d) = omega arith in
    more (10 * n + d) ∙ ap (λ k. option_map capped (digits_after k xs)) cut ∙ sym (more (10 * capped n + d))
one false n d xs more = refl

-- a number above the greatest can be cut before more digits as well as after them
pub capped_on : (n : ℕ) (xs : List ℕ) → option_map capped (digits_after n xs) ≡ option_map capped (digits_after (capped n) xs)
capped_on n [] = ap Some (omega arith)
capped_on n (c ∷ xs) = one (leb 48 c && leb c 57) n (c - 48) xs (λ k. capped_on k xs)

digit_in : (c : ℕ) → digit_value c < 10 → (leb 48 c && leb c 57) ≡ true
digit_in c h = grind (arith, nat_tests)

digit_is : (c : ℕ) → digit_value c < 10 → c - 48 ≡ digit_value c
digit_is c h = grind (arith, nat_tests)

-- a digit is taken into the number
pub digit_on : (xs : List ℕ) (i n d m : ℕ) → i < length xs → digit_value (get_or xs i 0) < 10 → d ≡ digit_value (get_or xs i 0) → m ≡ capped (10 * n + d) → option_map capped (digits_after m (drop (i + 1) xs)) ≡ option_map capped (digits_after n (drop i xs))
digit_on xs i n d m h low e v =
    let rest = drop (i + 1) xs in
    let c = get_or xs i 0 in
    ap (λ k. option_map capped (digits_after k rest)) v
    ∙ sym (capped_on (10 * n + d) rest)
    ∙ sym (at_drop_more (λ l. option_map capped (digits_after n l)) xs i 0 h ∙ ap (λ b. option_map capped (cond b (digits_after (10 * n + (c - 48)) rest) None)) (digit_in c low) ∙ ap (λ k. option_map capped (digits_after (10 * n + k) rest)) (digit_is c low ∙ sym e))
