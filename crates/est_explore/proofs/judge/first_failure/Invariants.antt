use Rattle.std.proofs.Common.{◌≡◌, ◌<◌, ℕ, false, slice_index_or}
use Rattle.state_search.specs.declared.found.Row.{Row}
use Rattle.est_explore.specs.Explored.{fails}
use Rattle.est_cover.specs.declared.answered.AnsweredInputs.{AnsweredInputs}
use Rattle.est_explore.specs.declared.one_module.Answer.{Answer}
use Rattle.est_explore.proofs.judge.first_failure.Given as goal

abbrev pub invariant-loop-at : goal.invariant-loop-at
invariant-loop-at l = (d : Row (AnsweredInputs Answer)) (k : ℕ) → k < l.at
    → fails l.claim (slice_index_or l.rows k d).label.inputs (slice_index_or l.rows k d).label.answer ≡ false
