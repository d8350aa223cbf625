use Rattle.std.proofs.Common.{refl}
use Rattle.rings.proofs.Flow.{tests_add_up, at_most_128}
use Rattle.rings.proofs.Loops.{loop_is_open, link_up_starts_none}
use Rattle.rings.proofs.Late.{open_is_late, home_leaves_none}
use Rattle.rings.proofs.Floods.{twice_is_loop, once_is_closed}
use Rattle.rings.proofs.Worked.{worked_ring, worked_flood}
use Rattle.rings.proofs.most_nodes.Goals as goal

pub returns : goal.returns
returns c = record { answer = refl; tests = tests_add_up; room = at_most_128; looped = loop_is_open; late = open_is_late; up = link_up_starts_none; home = home_leaves_none; twice = twice_is_loop; once = once_is_closed; worked = worked_ring; flooded = worked_flood }
