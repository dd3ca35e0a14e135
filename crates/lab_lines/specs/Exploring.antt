-- What is answered of all runs of a module (this project's own form).
use Rattle.std.specs.Prelude.{◌≡◌, ℕ, Bool, List, [], ◌∷◌, length}
use Rattle.serde_json.specs.Data.{Data}
use Rattle.est_kernel.specs.declared.statement.Test.{Test}
use Rattle.est_explore.specs.Explored.{IsExplored}
use Rattle.est_explore.specs.Runs.{Module}
use Rattle.est_explore.specs.Verdicts.{IsRight}
use Rattle.est_cover.specs.declared.answered.AnsweredInputs.{AnsweredInputs}
use Rattle.est_explore.specs.declared.claim.Claim.{Claim}
use Rattle.est_explore.specs.declared.claim.Claim.TheVariants.{NeverStuck, Always}
use Rattle.est_explore.specs.declared.one_module.Answer.{Answer}
use Rattle.est_explore.specs.declared.one_module.Position.{Position}
use Rattle.est_explore.specs.declared.verdict.Verdict.{Verdict}
use Rattle.state_search.specs.Table.{HasEnded}
use Rattle.state_search.specs.declared.found.Found.{Found}
use Rattle.lab_lines.specs.FoundJson.{verdict_json, exploration_json}

-- what is told of a claim is a right verdict on it
pub record IsTold (m : Module) (claim : Claim) (states steps : ℕ) (d : Data) : Type 0 where
  pub verdict : Verdict
  pub right : IsRight m claim states steps verdict
  pub said : d ≡ verdict_json m.kernel.interface verdict

-- the claim is that this test always holds
abbrev pub IsAlways : Claim → Test → Type 0
IsAlways NeverStuck test = ⊥
IsAlways (Always t) test = t.now ≡ test

-- what is told of a test is a right verdict on the claim that it always holds
pub record IsTestTold (m : Module) (states steps : ℕ) (test : Test) (d : Data) : Type 0 where
  pub claim : Claim
  pub always : IsAlways claim test
  pub told : IsTold m claim states steps d

-- the same of each test in turn
abbrev pub AreTold : Module → (states steps : ℕ) → List Test → List Data → Type 0
AreTold m states steps [] [] = Unit {0}
AreTold m states steps (t ∷ ts) (d ∷ ds) = IsTestTold m states steps t d × AreTold m states steps ts ds
AreTold m states steps _ _ = ⊥

-- what is told of a module: how many states and reactions a search of it has found that has ended, the verdict on the
-- claim that it is never Stuck, and that on each test in turn
pub record IsExploration (m : Module) (tests : List Test) (states steps : ℕ) (d : Data) : Type 0 where
  pub found : Found Position (AnsweredInputs Answer)
  pub watched : ℕ → Bool
  pub explored : IsExplored m watched found
  pub ended : HasEnded states steps found.nodes.items found.rows.items found.done
  pub stuck : Data
  pub stuck_told : IsTold m NeverStuck states steps stuck
  pub verdicts : List Data
  pub verdicts_told : AreTold m states steps tests verdicts
  pub said : d ≡ exploration_json (length found.rows.items) (length found.nodes.items) stuck verdicts
