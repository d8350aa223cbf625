-- The worked history, computed.
use Rattle.std.proofs.Common.{refl}
use Rattle.layout.specs.Elements.{stands, element_at}
use Rattle.hearing.specs.Heards.{heard}
use Rattle.outbox.specs.Messages.{octets_of}
use Rattle.rings.specs.Traffic.{is_test}
use Rattle.rings.specs.Worked.{WorkedRing, WorkedFlood}

pub worked_ring : WorkedRing
unfolding stands element_at heard octets_of is_test
worked_ring w = refl

pub worked_flood : WorkedFlood
unfolding stands element_at heard octets_of is_test
worked_flood w = refl
