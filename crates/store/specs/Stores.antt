-- What a store of the code holds, and what holds of every one.
use Rattle.std.specs.Prelude.{◌≡◌, ◌≤◌, length}
use Rattle.store.specs.Laws.{Reached}
use Rattle.store.specs.Model.{Model}
use Rattle.store.specs.Spots.{spots}
use Rattle.store.specs.View.{model_of}
use Rattle.store.specs.declared.store.Store.TheInside.{Inside}

-- what a store holds
abbrev pub model : Inside → Model
model s = model_of s.number s.links (spots s.chains) s.frames

-- every store is one that calls on a new store have left
pub record Whole (s : Inside) : Type 0 where
  pub few : s.links ≤ 50
  pub long : length s.frames ≡ 128
  pub reached : Reached s.number s.links (model s)
