-- What a search has found of a module (this project's own form).
use Rattle.std.specs.Prelude.{◌≢◌, ℕ, Bool, true, false, not, ◌||◌}
use Rattle.est_kernel.specs.Bits.{bits}
use Rattle.est_kernel.specs.declared.state.State.TheVariants.{Fresh}
use Rattle.est_meaning.specs.States.{IsState}
use Rattle.est_explore.specs.Inner.Answers.{AnswersSo}
use Rattle.est_explore.specs.Claims.{holds}
use Rattle.est_cover.specs.InputSets.{IsAsked, HaveAllInputs, may_offer}
use Rattle.est_explore.specs.Runs.{Module}
use Rattle.est_cover.specs.declared.answered.AnsweredInputs.{AnsweredInputs}
use Rattle.est_explore.specs.declared.claim.Claim.{Claim}
use Rattle.est_explore.specs.declared.claim.Claim.TheVariants.{NeverStuck, Always}
use Rattle.est_explore.specs.declared.one_module.Answer.{Answer}
use Rattle.est_explore.specs.declared.one_module.Answer.TheVariants.{Reaction, Stuck}
use Rattle.est_explore.specs.declared.one_module.Position.{Position}
use Rattle.state_search.specs.Table.{HasStateAt, IsFound}
use Rattle.state_search.specs.declared.found.Found.{Found}

-- the positions and steps are what a search of the module has found, each with these signals asked
pub record IsExplored (m : Module) (watched : ℕ → Bool) (f : Found Position (AnsweredInputs Answer)) : Type 0 where
  pub begins : HasStateAt f.nodes.items 0 (record { state = Fresh })
  pub found : IsFound (λ x. IsState m.kernel.root x.state)
      (λ x i next. IsAsked (AnswersSo m.kernel x) (may_offer m.kernel.interface m.allowed) m.relations watched i next)
      (λ x steps. HaveAllInputs (may_offer m.kernel.interface m.allowed) m.relations steps) (λ a b. a.inputs ≢ b.inputs)
      f.nodes.items f.rows.items f.done

-- whether the claim fails by what was answered
abbrev pub fails : Claim → (inputs : ℕ) → Answer → Bool
fails NeverStuck i (Stuck undecided) = true
fails NeverStuck i (Reaction outputs) = false
fails (Always test) i (Stuck undecided) = false
fails (Always test) i (Reaction outputs) = not (holds test.now (λ n. bits i n || bits outputs n))
