-- What is answered of two modules (this project's own form).
use Rattle.std.specs.Prelude.{◌≢◌, ◌<◌, ◌⊎◌, ℕ, List, length}
use Rattle.std.specs.List.{All, AllPairs}
use Rattle.est_kernel.specs.Bits.{bits}
use Rattle.est_meaning.specs.States.{state_term}
use Rattle.est_explore.specs.Runs.{Module, IsLawful, Instant, Runs, start}
use Rattle.est_explore.specs.Same.{Same, DifferBy}
use Rattle.est_explore.specs.declared.comparison.Comparison.{Comparison}
use Rattle.est_explore.specs.declared.comparison.Comparison.TheVariants.{Same as AreSame, Differ, TooMany}
use Rattle.est_explore.specs.declared.two_modules.PositionPair.{PositionPair}

-- one run leads both to these positions
pub record IsReachedByBoth (m l : Module) (x : PositionPair) : Type 0 where
  pub run : List Instant
  pub first_runs : Runs m (start m) run (state_term m.kernel.root x.first.state)
  pub second_runs : Runs l (start l) run (state_term l.kernel.root x.second.state)

-- more pairs of positions than that are reached
pub record HasMorePairs (m l : Module) (most : ℕ) : Type 0 where
  pub positions : List PositionPair
  pub more : most < length positions
  pub distinct : AllPairs (λ x y. x ≢ y) positions
  pub reached : All (IsReachedByBoth m l) positions

-- lawful inputs at a pair of positions
pub record PairTrial : Type 0 where
  pub positions : PositionPair
  pub inputs : ℕ

-- at the pairs that are reached there are more lawful sets of inputs than that
pub record HasMorePairTrials (m l : Module) (most : ℕ) : Type 0 where
  pub trials : List PairTrial
  pub more : most < length trials
  pub distinct : AllPairs (λ a b. a ≢ b) trials
  pub reached : All (λ a. IsReachedByBoth m l a.positions) trials
  pub lawful : All (λ a. IsLawful m (bits a.inputs)) trials

-- the answer is right, of a search that may find so many pairs of positions and try so many inputs
abbrev pub IsRightOfBoth : Module → Module → (states steps : ℕ) → Comparison → Type 0
IsRightOfBoth m l states steps AreSame = Same m l
IsRightOfBoth m l states steps (Differ word) = DifferBy m l word.items
IsRightOfBoth m l states steps TooMany = HasMorePairs m l states ⊎ HasMorePairTrials m l steps
