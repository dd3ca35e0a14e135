-- What is answered to a claim (this project's own form).
use Rattle.std.specs.Prelude.{◌≡◌, ◌≢◌, ◌<◌, ◌⊎◌, ◌||◌, ℕ, Bool, false, List, [], ◌∷◌, ◌++◌, length, map}
use Rattle.std.specs.List.{All, AllPairs}
use Rattle.est_kernel.specs.Bits.{bits}
use Rattle.est_kernel.specs.Term.{Term}
use Rattle.est_meaning.specs.Reaction.{CannotReact, is_undecided}
use Rattle.est_meaning.specs.Rounds.{judged_signals}
use Rattle.est_meaning.specs.States.{IsState, state_term}
use Rattle.est_explore.specs.Claims.{holds, HoldsFor, Holds}
use Rattle.est_explore.specs.Runs.{Module, IsLawful, Instant, Goes, Runs, start}
use Rattle.est_cover.specs.declared.answered.AnsweredInputs.{AnsweredInputs}
use Rattle.est_explore.specs.declared.claim.Claim.{Claim}
use Rattle.est_explore.specs.declared.claim.Claim.TheVariants.{NeverStuck, Always}
use Rattle.est_explore.specs.declared.one_module.Answer.{Answer}
use Rattle.est_explore.specs.declared.one_module.Answer.TheVariants.{Reaction, Stuck}
use Rattle.est_explore.specs.declared.one_module.Position.{Position}
use Rattle.est_explore.specs.declared.verdict.Verdict.{Verdict}
use Rattle.est_explore.specs.declared.verdict.Verdict.TheVariants.{Holds as Holding, Fails, TooMany}

-- what is emitted: where it is Stuck, nothing
abbrev pub outputs_of : Answer → ℕ → Bool
outputs_of (Reaction outputs) = bits outputs
outputs_of (Stuck undecided) = λ n. false

-- an answered set of inputs, as an instant
abbrev pub shown : AnsweredInputs Answer → Instant
shown a = record { inputs = bits a.inputs; outputs = outputs_of a.answer }

-- how the claim fails at t: it is Stuck with these inputs, and these signals are undecided; or it reacts so, and the
-- test does not hold
abbrev pub FailsAt : Module → Claim → Term → (inputs : ℕ) → Answer → Type 0
FailsAt m NeverStuck t i (Stuck undecided) = CannotReact (judged_signals m.kernel.interface (bits i)) (bits i) t
    × ((n : ℕ) → bits undecided n ≡ is_undecided (judged_signals m.kernel.interface (bits i)) (bits i) t n)
FailsAt m NeverStuck t i (Reaction outputs) = ⊥
FailsAt m (Always test) t i (Stuck undecided) = ⊥
FailsAt m (Always test) t i (Reaction outputs) = (u : Term) × (Goes m t (bits i) (bits outputs) u)
    × (holds test.now (λ n. bits i n || bits outputs n) ≡ false)

-- a shortest word of lawful inputs after which the claim fails: all its instants but the last one are a run, with the
-- inputs of the last one it fails, and in fewer instants it does not
pub record FailsBy (m : Module) (claim : Claim) (word : List (AnsweredInputs Answer)) : Type 0 where
  pub before : List (AnsweredInputs Answer)
  pub last : AnsweredInputs Answer
  pub split : word ≡ before ++ last ∷ []
  pub left : Term
  pub runs : Runs m (start m) (map shown before) left
  pub lawful : IsLawful m (bits last.inputs)
  pub fails : FailsAt m claim left last.inputs last.answer
  pub shortest : HoldsFor m claim (length before)

-- a run leads to what the position stands for
pub record IsReached (m : Module) (x : Position) : Type 0 where
  pub is_state : IsState m.kernel.root x.state
  pub run : List Instant
  pub runs : Runs m (start m) run (state_term m.kernel.root x.state)

-- more positions than that are reached
pub record HasMoreStates (m : Module) (most : ℕ) : Type 0 where
  pub positions : List Position
  pub more : most < length positions
  pub distinct : AllPairs (λ x y. x ≢ y) positions
  pub reached : All (IsReached m) positions

-- lawful inputs at a position
pub record Trial : Type 0 where
  pub position : Position
  pub inputs : ℕ

-- at the positions that are reached there are more lawful sets of inputs than that
pub record HasMoreTrials (m : Module) (most : ℕ) : Type 0 where
  pub trials : List Trial
  pub more : most < length trials
  pub distinct : AllPairs (λ a b. a ≢ b) trials
  pub reached : All (λ a. IsReached m a.position) trials
  pub lawful : All (λ a. IsLawful m (bits a.inputs)) trials

-- the verdict is right, of a search that may find so many positions and try so many inputs
abbrev pub IsRight : Module → Claim → (states steps : ℕ) → Verdict → Type 0
IsRight m claim states steps Holding = Holds m claim
IsRight m claim states steps (Fails word) = FailsBy m claim word.items
IsRight m claim states steps TooMany = HasMoreStates m states ⊎ HasMoreTrials m steps
