-- What a module answers in an instant (this project's own form).
use Rattle.std.specs.Prelude.{◌≡◌, ℕ, Option, Some, None}
use Rattle.est_kernel.specs.Bits.{bits}
use Rattle.est_kernel.specs.declared.kernel.Kernel.{Kernel}
use Rattle.est_meaning.specs.Reaction.{Reacts, CannotReact, is_undecided}
use Rattle.est_meaning.specs.States.{IsState, state_term}
use Rattle.est_rounds.specs.Contract.{judged_of}
use Rattle.est_cover.specs.InputSets.{InputSet}
use Rattle.est_explore.specs.declared.one_module.Position.{Position}
use Rattle.est_explore.specs.declared.one_module.Answer.{Answer}
use Rattle.est_explore.specs.declared.one_module.Answer.TheVariants.{Reaction, Stuck}

-- at the position the kernel reacts to these inputs, with these outputs, and goes on at the other position
pub record ReactsSo (k : Kernel) (x : Position) (inputs : InputSet) (outputs : ℕ) (y : Position) : Type 0 where
  pub reacts : Reacts (judged_of k inputs) inputs (state_term k.root x.state) (bits outputs) (state_term k.root y.state)
  pub next : IsState k.root y.state

-- at the position the kernel has no reaction to these inputs, and these signals are undecided
pub record IsStuckSo (k : Kernel) (x : Position) (inputs : InputSet) (signals : ℕ) : Type 0 where
  pub cannot : CannotReact (judged_of k inputs) inputs (state_term k.root x.state)
  pub undecided : (n : ℕ) → bits signals n ≡ is_undecided (judged_of k inputs) inputs (state_term k.root x.state) n

-- at the position the kernel answers these inputs so, and is at that position then; where it is Stuck, at none
abbrev pub AnswersSo : Kernel → Position → InputSet → Answer → Option Position → Type 0
AnswersSo k x inputs (Reaction outputs) (Some y) = ReactsSo k x inputs outputs y
AnswersSo k x inputs (Reaction outputs) None = ⊥
AnswersSo k x inputs (Stuck undecided) (Some y) = ⊥
AnswersSo k x inputs (Stuck undecided) None = IsStuckSo k x inputs undecided
