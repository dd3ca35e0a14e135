-- What two modules answer in an instant (this project's own form).
use Rattle.std.specs.Prelude.{◌≡◌, Bool, true, false, nat_eq, Option, Some, None}
use Rattle.est_kernel.specs.declared.kernel.Kernel.{Kernel}
use Rattle.est_meaning.specs.States.{IsState}
use Rattle.est_cover.specs.InputSets.{InputSet}
use Rattle.est_explore.specs.Inner.Answers.{AnswersSo}
use Rattle.est_explore.specs.declared.one_module.Answer.{Answer}
use Rattle.est_explore.specs.declared.one_module.Answer.TheVariants.{Reaction, Stuck}
use Rattle.est_explore.specs.declared.one_module.Position.{Position}
use Rattle.est_explore.specs.declared.two_modules.AnswerPair.{AnswerPair}
use Rattle.est_explore.specs.declared.two_modules.PositionPair.{PositionPair}

-- whether two answers are the same: the same outputs, or none
abbrev pub agree : Answer → Answer → Bool
agree (Reaction a) (Reaction b) = nat_eq a b
agree (Reaction a) (Stuck u) = false
agree (Stuck u) (Reaction b) = false
agree (Stuck u) (Stuck v) = true

-- where both stand, if they do the same and each goes on
abbrev pub joined : Bool → Option Position → Option Position → Option PositionPair
joined true (Some x) (Some y) = Some (record { first = x; second = y })
joined true (Some x) None = None
joined true None y = None
joined false x y = None

-- each module stands at a state of its own
pub record ArePositions (k l : Kernel) (x : PositionPair) : Type 0 where
  pub first : IsState k.root x.first.state
  pub second : IsState l.root x.second.state

-- each engine is for its kernel, and the kernels have one interface
pub record AreFor (first second : Type 0) (k l : Kernel) : Type 0 where
  pub first_fits : first
  pub second_fits : second
  pub interface : l.interface ≡ k.interface

-- each module answers so, and where they do the same, both go on
pub record AnswersBoth (k l : Kernel) (x : PositionPair) (inputs : InputSet) (answer : AnswerPair)
    (next : Option PositionPair) :
    Type 0 where
  pub first_next : Option Position
  pub second_next : Option Position
  pub first : AnswersSo k x.first inputs answer.first first_next
  pub second : AnswersSo l x.second inputs answer.second second_next
  pub next_is : next ≡ joined (agree answer.first answer.second) first_next second_next
