-- The writer refuses no message of a node.
use Rattle.std.proofs.Common.{◌≡◌, ℕ, List, ◌++◌, length, drop, refl}
use Rattle.frame.specs.declared.field.PortRole.TheVariants.{Primary, Secondary}
use Rattle.frame.specs.declared.field.RingState.TheVariants.{Open, Closed}
use Rattle.writer.specs.Writing.{after}
use Rattle.settings.specs.Setups.{Setup, Within}
use Rattle.settings.proofs.Limits.{counts_within}
use Rattle.outbox.specs.declared.message.Message.{Message}
use Rattle.outbox.specs.declared.message.Message.TheVariants.{Test, TopologyChange, LinkDown, LinkUp}
use Rattle.outbox.specs.Messages.{outgoing_of, octets_of, total_of}

module _ (s : Setup) (n : ℕ) (out : List ℕ) (w : Within s) (l : length out ≡ 60) where
  pub after_is : (m : Message) → after (outgoing_of s m n) out ≡ octets_of s m n ++ drop (total_of m) out
  unfolding octets_of
  after_is (Test Primary Open k t) = rw ((counts_within s w.limits).multiple, l) refl
  after_is (Test Primary Closed k t) = rw ((counts_within s w.limits).multiple, l) refl
  after_is (Test Secondary Open k t) = rw ((counts_within s w.limits).multiple, l) refl
  after_is (Test Secondary Closed k t) = rw ((counts_within s w.limits).multiple, l) refl
  after_is (TopologyChange i) = rw ((counts_within s w.limits).multiple, l) refl
  after_is (LinkDown i) = rw l refl
  after_is (LinkUp i) = rw l refl
