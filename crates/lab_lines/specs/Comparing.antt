-- What is answered of all runs of two modules (this project's own form).
use Rattle.std.specs.Prelude.{◌≡◌, ℕ, Bool, length}
use Rattle.serde_json.specs.Data.{Data}
use Rattle.est_explore.specs.Comparisons.{IsRightOfBoth}
use Rattle.est_explore.specs.ExploredBoth.{IsExploredBoth}
use Rattle.est_explore.specs.Runs.{Module}
use Rattle.est_cover.specs.declared.answered.AnsweredInputs.{AnsweredInputs}
use Rattle.est_explore.specs.declared.comparison.Comparison.{Comparison}
use Rattle.est_explore.specs.declared.two_modules.AnswerPair.{AnswerPair}
use Rattle.est_explore.specs.declared.two_modules.PositionPair.{PositionPair}
use Rattle.state_search.specs.Table.{HasEnded}
use Rattle.state_search.specs.declared.found.Found.{Found}
use Rattle.lab_lines.specs.FoundJson.{comparison_json}

-- what is told of two modules: how many pairs of states and reactions a search of both has found that has ended, and
-- whether they do the same
pub record IsComparison (m l : Module) (states steps : ℕ) (d : Data) : Type 0 where
  pub found : Found PositionPair (AnsweredInputs AnswerPair)
  pub watched : ℕ → Bool
  pub explored : IsExploredBoth m l watched found
  pub ended : HasEnded states steps found.nodes.items found.rows.items found.done
  pub comparison : Comparison
  pub right : IsRightOfBoth m l states steps comparison
  pub said : d ≡ comparison_json m.kernel.interface (length found.rows.items) (length found.nodes.items) comparison
