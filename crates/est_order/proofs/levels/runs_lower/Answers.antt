use Rattle.std.proofs.Common.{length, slice_index, nat_le, nat_lt, ◌||◌, ◌∙◌, rules, tests}
use Rattle.std.proofs.lemmas.Iterator.{YieldsList-from_slice}
use Rattle.std.proofs.lemmas.Iterator.Search.{all_from_yields_List}
use Rattle.est_order.proofs.LevelLemmas.{lower_is}
use Rattle.est_order.proofs.levels.runs_lower.Goals as goal

pub returns : goal.returns
returns c =
    all_from_yields_List
    (λ run. nat_le (length c.args.runs.now) run || nat_lt (slice_index c.args.levels.now run) c.level_of-level.result) _
    _ _
    c.all.ensures.ran (YieldsList-from_slice c.row_of.result.now cc) (λ x b q k. search (rules, tests))
    ∙ lower_is c.args.runs.now c.args.levels.now c.row_of.result.now c.args.place c.level_of-level.result
    c.level_of-level.ensures c.row_of.ensures
