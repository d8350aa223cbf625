use Rattle.std.proofs.Common.{subst}
use Rattle.store.specs.Laws.{Reached}
use Rattle.store.proofs.Counts.{all_places, none_twice, finds_room}
use Rattle.store.proofs.Fifo.{first_out}
use Rattle.store.proofs.Reach.{all_somewhere, once_each}
use Rattle.store.proofs.store.Store.free.Goals as goal

pub returns-clause-rest : goal.returns-clause-rest
returns-clause-rest c = rw (c.len.ensures, ← c.self.view_is) (all_somewhere c.self.inside c.self.invariant)

pub returns-clause-once : goal.returns-clause-once
returns-clause-once c = rw (← c.self.view_is) (once_each c.self.inside c.self.invariant)

pub returns-clause-reached : goal.returns-clause-reached
returns-clause-reached c = subst (λ m. Reached m.number m.links m) c.self.view_is c.self.invariant.reached

pub returns-clause-laws : goal.returns-clause-laws
returns-clause-laws c = record { all_places = all_places; none_twice = none_twice; finds_room = finds_room; first_out = first_out }
