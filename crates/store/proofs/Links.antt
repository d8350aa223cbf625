-- How a list changes where one of its places leads elsewhere.
use Rattle.std.proofs.Common.{◌≡◌, ℕ, zero, suc, ◌<◌, ◌≤◌, ◌≢◌, List, [], ◌∷◌, ◌++◌, length, set, refl, ap, arith, get_or-set_other, get_or-set_same}
use Rattle.std.proofs.lemmas.Bool.Decides.{nat_tests}
use Rattle.store.specs.declared.chains.Spot.{Spot}
use Rattle.store.specs.Chains.{chain, last_or, no_spot, spot_at}
use Rattle.store.specs.Counting.{count}

pub count_last : (t h : ℕ) (xs : List ℕ) → last_or h xs ≡ t → 1 ≤ count t (h ∷ xs)
count_last t h [] e = grind (arith, nat_tests)
count_last t h (x ∷ xs) e = grind (arith, nat_tests, count_last t x xs e)

pub length_chain : (ps : List Spot) (h k : ℕ) → length (chain ps h k) ≡ k
length_chain ps h zero = refl
length_chain ps h (suc k) = ap suc (length_chain ps (spot_at ps h).next k)

-- a list is known by where its places lead
pub chain_same : (ps qs : List Spot) (h k : ℕ) → ((i : ℕ) → (spot_at ps i).next ≡ (spot_at qs i).next) → chain ps h k ≡ chain qs h k
chain_same ps qs h zero e = refl
chain_same ps qs h (suc k) e = ap (λ (xs : List ℕ). h ∷ xs) (rw (e h) (chain_same ps qs (spot_at qs h).next k e))

-- a link that is not followed may be changed
pub chain_away : (ps : List Spot) (t : ℕ) (v : Spot) (h k : ℕ) → count t (chain ps h k) ≡ 0 → chain (set ps t v) h k ≡ chain ps h k
chain_away ps t v h zero e = refl
chain_away ps t v h (suc k) e =
    let ne : h ≢ t = grind (arith, nat_tests) in
    let g = get_or-set_other ps t h v no_spot ne in
    ap (λ (xs : List ℕ). h ∷ xs) (rw g (chain_away ps t v (spot_at ps h).next k (grind (arith, nat_tests))))

-- the last link leads on to another place
pub chain_push : (ps : List Spot) (t : ℕ) (v : Spot) (h k : ℕ) → t < length ps → last_or h (chain ps (spot_at ps h).next k) ≡ t → count t (chain ps h (suc k)) ≡ 1 → chain (set ps t v) h (suc (suc k)) ≡ chain ps h (suc k) ++ v.next ∷ []
chain_push ps t v h zero l e c = rw (e, get_or-set_same ps t v no_spot l)
chain_push ps t v h (suc k) l e c =
    let more = count_last t (spot_at ps h).next (chain ps (spot_at ps (spot_at ps h).next).next k) e in
    let ne : h ≢ t = grind (arith, nat_tests) in
    let g = get_or-set_other ps t h v no_spot ne in
    ap (λ (xs : List ℕ). h ∷ xs) (rw g (chain_push ps t v (spot_at ps h).next k l e (grind (arith, nat_tests))))
