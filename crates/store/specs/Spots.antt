-- The places in the lists and in hand, as the arrays have them.
use Rattle.store.specs.Chains.{Spots, spots_of}
use Rattle.store.specs.declared.chains.Chains.{Chains}

-- the lists and hands of the arrays
abbrev pub spots : Chains → Spots
spots c = spots_of c.lanes c.places
