-- The refusals in checking order: the number of each, and its sentence.
use Rattle.std.specs.Prelude.{ℕ, List, codes}
use Rattle.refusal.specs.declared.Refusal.{Refusal}
use Rattle.refusal.specs.declared.Refusal.TheVariants.{FrameSize, UnknownDestination, EtherType, Version, FirstElement, TooShort, WrongDestination, FieldValue, NoCommon, NoEnd, Padding, NoRoom, Setting, RingSize, NoSuchLink, NoSuchNode, NoSuchDirection, NoSuchTimer, LinkAlreadySo, NothingWaits, TimerNotRunning, FloodRoom, NotInHand, GroupAddress, TableFull}

-- the number of a refusal; a call is refused by the lowest that fits it
abbrev pub number_of : Refusal → ℕ
number_of FrameSize = 1
number_of UnknownDestination = 2
number_of EtherType = 3
number_of Version = 4
number_of FirstElement = 5
number_of TooShort = 6
number_of WrongDestination = 7
number_of FieldValue = 8
number_of NoCommon = 9
number_of NoEnd = 10
number_of Padding = 11
number_of NoRoom = 12
number_of Setting = 13
number_of RingSize = 14
number_of NoSuchLink = 15
number_of NoSuchNode = 16
number_of NoSuchDirection = 17
number_of NoSuchTimer = 18
number_of LinkAlreadySo = 19
number_of NothingWaits = 20
number_of TimerNotRunning = 21
number_of FloodRoom = 22
number_of NotInHand = 23
number_of GroupAddress = 24
number_of TableFull = 25

-- the sentence of a refusal, in ASCII
abbrev pub sentence_of : Refusal → List ℕ
sentence_of FrameSize = codes "the frame has fewer than 50 or more than 60 octets"
sentence_of UnknownDestination = codes "the destination is neither of the two MRP addresses"
sentence_of EtherType = codes "the type of the frame is not 88E3"
sentence_of Version = codes "the MRP version is not 1"
sentence_of FirstElement = codes "the first element has no known type and length"
sentence_of TooShort = codes "the frame is shorter than its first element asks for"
sentence_of WrongDestination = codes "the destination is not the one for this kind of frame"
sentence_of FieldValue = codes "a field is outside its values"
sentence_of NoCommon = codes "the Common element is not where it belongs"
sentence_of NoEnd = codes "the End element is not where it belongs"
sentence_of Padding = codes "an octet after the End element is not zero"
sentence_of NoRoom = codes "there are fewer octets to write into than the frame has"
sentence_of Setting = codes "a setting is outside its limits or values"
sentence_of RingSize = codes "a ring has at least 2 and at most 50 switches"
sentence_of NoSuchLink = codes "the ring has no link of this number"
sentence_of NoSuchNode = codes "the ring has no node of this number"
sentence_of NoSuchDirection = codes "a direction is 0 or 1"
sentence_of NoSuchTimer = codes "a timer number is 0 to 4"
sentence_of LinkAlreadySo = codes "the link is already so"
sentence_of NothingWaits = codes "no frame waits there"
sentence_of TimerNotRunning = codes "this timer is not running there"
sentence_of FloodRoom = codes "a flood needs two octets of room for each node"
sentence_of NotInHand = codes "the frame in hand does not belong to this store"
sentence_of GroupAddress = codes "a group address cannot be learned"
sentence_of TableFull = codes "no more addresses can be learned"
