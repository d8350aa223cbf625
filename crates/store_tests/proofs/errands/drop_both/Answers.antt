use Rattle.std.proofs.Common.{ap, ◌∙◌}
use Rattle.store.specs.Model.{in_hand}
use Rattle.store_tests.proofs.Same.{in_place, kept}
use Rattle.store_tests.proofs.errands.drop_both.Goals as goal

pub drop_own-requires-in-Err-drop_frame-2 : goal.drop_own-requires-in-Err-drop_frame-2
drop_own-requires-in-Err-drop_frame-2 c = in_place c.in_ok-first.first c.in-Ok.second c.take.new.self c.take-2.new.self c.drop_frame.new.self c.in-Err-drop_frame-2.back c.in_ok-first.ensures.held c.in-Ok.ensures.held c.in-Ok-drop_frame.ensures.answer c.drop_frame.ensures.after c.in-Err-drop_frame-2.ensures.answer

pub drop_own-requires-in-Err-drop_frame-3 : goal.drop_own-requires-in-Err-drop_frame-3
drop_own-requires-in-Err-drop_frame-3 c =
    ap (in_hand c.in-Ok.second) (kept c.in_ok-first.first c.take-2.new.self c.drop_frame.new.self c.in-Err-drop_frame.back c.in-Err-drop_frame.ensures.answer c.drop_frame.ensures.after) ∙ c.in-Ok.ensures.held
