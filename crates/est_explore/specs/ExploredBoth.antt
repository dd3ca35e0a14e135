-- What a search has found of two modules side by side (this project's own form).
use Rattle.std.specs.Prelude.{◌≢◌, ℕ, Bool, Option}
use Rattle.est_kernel.specs.declared.state.State.TheVariants.{Fresh}
use Rattle.est_cover.specs.InputSets.{IsAsked, HaveAllInputs, may_offer}
use Rattle.est_explore.specs.Inner.Pairs.{AnswersBoth, ArePositions}
use Rattle.est_explore.specs.Runs.{Module}
use Rattle.est_cover.specs.declared.answered.AnsweredInputs.{AnsweredInputs}
use Rattle.est_explore.specs.declared.two_modules.AnswerPair.{AnswerPair}
use Rattle.est_explore.specs.declared.two_modules.PositionPair.{PositionPair}
use Rattle.state_search.specs.Table.{HasStateAt, IsFound}
use Rattle.state_search.specs.declared.found.Found.{Found}

-- where both begin
abbrev pub both_fresh : PositionPair
both_fresh = record { first = record { state = Fresh }; second = record { state = Fresh } }

-- what a search takes for a step of both
abbrev pub DoesBoth : Module → Module → (watched : ℕ → Bool) → PositionPair → AnsweredInputs AnswerPair
    → Option PositionPair
    → Type 0
DoesBoth m l watched x i next =
    IsAsked (AnswersBoth m.kernel l.kernel x) (may_offer m.kernel.interface m.allowed) m.relations watched i next

-- the positions and steps are what a search of both has found, each with these signals asked
pub record IsExploredBoth (m l : Module) (watched : ℕ → Bool)
    (f : Found PositionPair (AnsweredInputs AnswerPair)) : Type 0 where
  pub begins : HasStateAt f.nodes.items 0 both_fresh
  pub found : IsFound (ArePositions m.kernel l.kernel) (DoesBoth m l watched)
      (λ x steps. HaveAllInputs (may_offer m.kernel.interface m.allowed) m.relations steps) (λ a b. a.inputs ≢ b.inputs)
      f.nodes.items f.rows.items f.done
