use Rattle.std.proofs.Common.{◌≡◌, ◌<◌, ℕ, true, slice_index_or}
use Rattle.state_search.specs.declared.found.Row.{Row}
use Rattle.est_explore.specs.Inner.Pairs.{agree}
use Rattle.est_cover.specs.declared.answered.AnsweredInputs.{AnsweredInputs}
use Rattle.est_explore.specs.declared.two_modules.AnswerPair.{AnswerPair}
use Rattle.est_explore.proofs.comparison.first_difference.Given as goal

abbrev pub invariant-loop-at : goal.invariant-loop-at
invariant-loop-at l = (d : Row (AnsweredInputs AnswerPair)) (k : ℕ) → k < l.at
    → agree (slice_index_or l.rows k d).label.answer.first (slice_index_or l.rows k d).label.answer.second ≡ true
