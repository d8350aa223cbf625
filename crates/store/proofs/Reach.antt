-- A store is always what some sequence of calls left.
use Rattle.std.proofs.Common.{◌≡◌, ℕ, ◌+◌, ◌≤◌, ltb, List, [], ◌∷◌, sym, ap, ◌∙◌, subst, arith}
use mathlib.Core.Logic.{∥∥₁_elim, ∥∥₁_map}
use native.Mathlib.Bridge.{le_prop}
use Rattle.store.specs.Counting.{one}
use Rattle.store.specs.Model.{Model, fresh, PutInto, waiting_in}
use Rattle.store.specs.Laws.{Call, puts, step, run, Fits, Allowed, Reached, in_hands, stands_in}
use Rattle.store.specs.Stores.{model, Whole}
use Rattle.store.specs.declared.store.Store.TheInside.{Inside}
use Rattle.store.proofs.Counts.{none_twice, all_places}

pub reached_new : (k n : ℕ) (m : Model) → m ≡ fresh k n → Reached k n m
reached_new k n m e = ∣ ([], (tt, sym e)) ∣₁

module _ (s : Inside) (w : Whole s) where
  pub reached_next : (c : Call) (after : Model) → Fits c (model s) → after ≡ step c (model s) → Reached s.number s.links after
  reached_next c after f e = ∥∥₁_map w.reached (λ r. (c ∷ r.0, ((subst (λ (x : Model). Fits c x) (sym r.1.1) f, r.1.0), ap (step c) r.1.1 ∙ sym e)))

  pub reached_put : (l d : ℕ) (o : List ℕ) (after : Model) → ((p : ℕ) × PutInto l d o (model s) after p) → Reached s.number s.links after
  reached_put l d o after (p, i) = reached_next (puts l d o p) after i.was_free i.after

  pub once_each : (p : ℕ) → stands_in (model s) p ≤ one (ltb p 128)
  once_each p = ∥∥₁_elim w.reached le_prop (λ r. subst (λ (x : Model). stands_in x p ≤ one (ltb p 128)) r.1.1 (none_twice s.number s.links r.0 r.1.0 p))

  pub all_somewhere : waiting_in (model s) + in_hands (model s) + (model s).free ≡ 128
  all_somewhere =
      let low : waiting_in (model s) + in_hands (model s) + (model s).free ≤ 128 = ∥∥₁_elim w.reached le_prop (λ r. (let a = all r in omega arith)) in
      let high : 128 ≤ waiting_in (model s) + in_hands (model s) + (model s).free = ∥∥₁_elim w.reached le_prop (λ r. (let a = all r in omega arith)) in
      omega arith
    where
      all : ((h : List Call) × (Allowed s.number s.links h × (run s.number s.links h ≡ model s))) → waiting_in (model s) + in_hands (model s) + (model s).free ≡ 128
      all r = subst (λ (x : Model). waiting_in x + in_hands x + x.free ≡ 128) r.1.1 (all_places s.number s.links r.0 r.1.0)
