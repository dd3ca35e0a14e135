-- Two modules that do the same (this project's own form).
use Rattle.std.specs.Prelude.{◌≡◌, ◌≤◌, ◌↔◌, ℕ, false, List, [], ◌∷◌, ◌++◌, length, map}
use Rattle.est_kernel.specs.Bits.{bits}
use Rattle.est_kernel.specs.Term.{Term}
use Rattle.est_meaning.specs.Reaction.{CannotReact}
use Rattle.est_meaning.specs.Rounds.{judged_signals}
use Rattle.est_explore.specs.Inner.Pairs.{agree}
use Rattle.est_explore.specs.Runs.{Module, IsLawful, Instant, Goes, Runs, start, IsRun}
use Rattle.est_explore.specs.Verdicts.{outputs_of}
use Rattle.est_cover.specs.declared.answered.AnsweredInputs.{AnsweredInputs}
use Rattle.est_explore.specs.declared.one_module.Answer.{Answer}
use Rattle.est_explore.specs.declared.one_module.Answer.TheVariants.{Reaction, Stuck}
use Rattle.est_explore.specs.declared.two_modules.AnswerPair.{AnswerPair}

-- the two do the same in the first n instants: each run of so many is one of both. So they emit the same in each, and
-- where
-- one is Stuck, so is the other
abbrev pub SameFor : Module → Module → ℕ → Type 0
SameFor m l n = (run : List Instant) → length run ≤ n → IsRun m run ↔ IsRun l run

-- the two do the same in every instant of every run
abbrev pub Same : Module → Module → Type 0
Same m l = (n : ℕ) → SameFor m l n

-- what a module at t answers to the inputs
abbrev pub AnswersAt : Module → Term → (inputs : ℕ) → Answer → Type 0
AnswersAt m t i (Reaction outputs) = (u : Term) × Goes m t (bits i) (bits outputs) u
AnswersAt m t i (Stuck undecided) = CannotReact (judged_signals m.kernel.interface (bits i)) (bits i) t

-- an instant of both, by what the first does
abbrev pub shown_first : AnsweredInputs AnswerPair → Instant
shown_first a = record { inputs = bits a.inputs; outputs = outputs_of a.answer.first }

-- a shortest word by which they differ: all its instants but the last one are a run of both, and in the last one the
-- two
-- answer otherwise
pub record DifferBy (m l : Module) (word : List (AnsweredInputs AnswerPair)) : Type 0 where
  pub before : List (AnsweredInputs AnswerPair)
  pub last : AnsweredInputs AnswerPair
  pub split : word ≡ before ++ last ∷ []
  pub first_left : Term
  pub second_left : Term
  pub first_runs : Runs m (start m) (map shown_first before) first_left
  pub second_runs : Runs l (start l) (map shown_first before) second_left
  pub lawful : IsLawful m (bits last.inputs)
  pub first_answers : AnswersAt m first_left last.inputs last.answer.first
  pub second_answers : AnswersAt l second_left last.inputs last.answer.second
  pub differ : agree last.answer.first last.answer.second ≡ false
  pub shortest : SameFor m l (length before)
