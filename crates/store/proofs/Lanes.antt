-- What is known of a link and a direction once their list is found or refused.
use Rattle.std.proofs.Common.{◌≡◌, ℕ, ◌<◌, true, ◌&&◌, ltb, Ok, Err, Result, ap, ◌∙◌, inl, inr}
use Rattle.refusal.specs.declared.Refusal.{Refusal}
use Rattle.refusal.specs.declared.Refusal.TheVariants.{NoSuchLink, NoSuchDirection}
use Rattle.std.proofs.lemmas.Bool.{lt-leb, lt-ltb, le-leb, cases_lt}
use Rattle.store.specs.Model.{on_link}
use Rattle.store.specs.View.{lane, lane_answer}

pub ok_err : {A : Type 0} {E : Type 0} (a : A) (e : E) → Ok a ≡ Err e → ⊥
ok_err a e z = cc

abbrev number : Result ℕ Refusal → ℕ
number (Ok q) = q
number (Err e) = 0

-- an accepted link and direction
pub record There (n l d q : ℕ) : Type 0 where
  pub link : l < n
  pub direction : d < 2
  pub list : q ≡ lane l d

module _ (n l d : ℕ) where
  pub on_link_lem : {A : Type 0} → l < n → d < 2 → (r : Result A Refusal) → on_link n l d r ≡ r
  on_link_lem a b r = rw (lt-leb n l a, lt-leb 2 d b)

  pub is_link_lem : l < n → d < 2 → (ltb l n && ltb d 2) ≡ true
  is_link_lem a b = rw (lt-ltb l n a, lt-ltb d 2 b)

  -- a call that went past the two checks
  pub there : {A : Type 0} (x : A) (r : Result A Refusal) → Ok x ≡ on_link n l d r → (l < n) × (d < 2) × (Ok x ≡ r)
  there x r z = elim (cases_lt l n) [ inl a ↦ elim (cases_lt d 2) [ inl b ↦ (a, b, z ∙ on_link_lem a b r) | inr b ↦ absurd (ok_err x NoSuchDirection (rw (lt-leb n l a, le-leb 2 d b) at z)) ] | inr a ↦ absurd (ok_err x NoSuchLink (rw (le-leb n l a) at z)) ]

  pub found : (q : ℕ) → Ok q ≡ lane_answer n l d → There n l d q
  found q z = let t = there q (Ok (lane l d)) z in record { link = t.0; direction = t.1; list = ap number t.2 }
