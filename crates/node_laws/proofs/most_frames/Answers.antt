use Rattle.std.proofs.Common.{refl}
use Rattle.node_laws.proofs.Fits.{always_fit, always_opens, always_in_count, four_frames}
use Rattle.node_laws.proofs.Announces.{counts_down, worked_announcement}
use Rattle.node_laws.proofs.Says.{always_reads_back}
use Rattle.node_laws.proofs.most_frames.Goals as goal

pub returns : goal.returns
returns c = record { answer = refl; fits = always_fit; opens = always_opens; counts = always_in_count; four = four_frames; down = counts_down; worked = worked_announcement; back = always_reads_back }
