-- The count is that of the parts that are not empty.
use Rattle.std.proofs.Common.{◌∙◌, rules, tests}
use Rattle.std.proofs.lemmas.Iterator.Consumers.{count_from_yields_List, YieldsList-from_filter}
use Rattle.std.proofs.lemmas.Iterator.Splits.{YieldsList-from_slice_split}
use Rattle.std.proofs.lemmas.List.Sums.{length-filter}
use Rattle.std.specs.List.{slice_split}
use Rattle.words.specs.Cuts.{is_space}
use Rattle.words.proofs.Parts.{filled, filled_parts}
use Rattle.words.proofs.line.Words.count.Goals as goal

pub returns : goal.returns
returns c =
    let text = c.args.self.now.rest.now in
    count_from_yields_List _ c.count.result c.count.ensures.ran
    (YieldsList-from_filter _ filled (YieldsList-from_slice_split _ is_space text (search rules) (search rules) (search rules) (λ x b q k. search (rules, tests))) c.filter.ensures.closure (λ x b q k. search (rules, tests)))
    ∙ length-filter filled (slice_split is_space text) ∙ filled_parts text
