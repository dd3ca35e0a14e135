-- What the second engine is asked of a step, and what is asked of the slot after it: private to the audit of a slot.
use Rattle.std.specs.Prelude.{◌≡◌, ◌⊎◌, ◌<◌, ℕ, true, false, List, MatchOption}
use Rattle.est_kernel.specs.Limits.{local_depth}
use Rattle.est_kernel.specs.Term.{Term}
use Rattle.est_kernel.specs.View.{term_of}
use Rattle.est_kernel.specs.declared.kernel.Kernel.{Kernel}
use Rattle.est_kernel.specs.declared.state.State.{State}
use Rattle.est_left.specs.Orders.{are_in_order}
use Rattle.est_meaning.specs.States.{state_term}
use Rattle.reactor_core.specs.Meaning.{PastMove}
use Rattle.reactor_core.specs.declared.entry.SlotEntry.{SlotEntry}
use Rattle.reactor_core.specs.Instants.{IsOutcome}
use Rattle.reactor_core.specs.Left.{IsKernelOf, IsLeftOf}
use Rattle.reactor_core.specs.Meaning.{is_loaded, instant_of}
use Rattle.audit_report.specs.declared.second_engine.SecondAnswer.{SecondAnswer}
use Rattle.audit_report.specs.declared.second_engine.SecondAnswer.TheVariants.{NotAsked, Other, SameOutputs, Same}
use Rattle.audit_report.specs.declared.second_engine.TheConstants.{ASKED_LOCALS}

-- local signals of the running module nest more than `ASKED_LOCALS` deep
pub record IsPassedOver (journal : List SlotEntry) : Type 0 where
  pub kernel : Kernel
  pub is : IsKernelOf journal kernel
  pub passed : ASKED_LOCALS < local_depth (term_of kernel.root)

-- the next instant after these entries has an outcome with these outputs, and leaves the term of this state of the
-- running module's kernel
pub record Predicts (journal : List SlotEntry) (outputs : ℕ) (next : State) : Type 0 where
  pub kernel : Kernel
  pub is : IsKernelOf journal kernel
  pub ordered : are_in_order kernel.root 0 ≡ true
  pub outcome : IsOutcome journal outputs (state_term kernel.root next)

-- the next instant after these entries has no outcome with these outputs
abbrev pub GivesOtherwise : List SlotEntry → (outputs : ℕ) → Type 0
GivesOtherwise journal outputs = (next : Term) → IsOutcome journal outputs next → ⊥

-- what the opinion of a step says that keeps these outputs
abbrev pub IsSecondStepAnswer : List SlotEntry → (outputs : ℕ) → SecondAnswer → Type 0
IsSecondStepAnswer journal outputs NotAsked = IsPassedOver journal
IsSecondStepAnswer journal outputs Other = GivesOtherwise journal outputs
IsSecondStepAnswer journal outputs SameOutputs = (next : Term) × IsOutcome journal outputs next
IsSecondStepAnswer journal outputs (Same next) = Predicts journal outputs next

-- what the opinion of a move says: of each but a step nothing is asked, nor where nothing runs
abbrev pub IsSecondAnswer : List SlotEntry → PastMove → SecondAnswer → Type 0
IsSecondAnswer journal done opinion =
    MatchOption (instant_of done) (opinion ≡ NotAsked)
    (λ i. ((is_loaded journal ≡ false) × (opinion ≡ NotAsked)) ⊎ IsSecondStepAnswer journal i.outputs opinion)

-- the term of this state of the running module's kernel is left, if one runs and its pauses are numbered in text order
pub record StandsFor (journal : List SlotEntry) (next : State) : Type 0 where
  pub kernel : Kernel
  pub state : State
  pub left : IsLeftOf journal kernel state
  pub same : are_in_order kernel.root 0 ≡ true → state_term kernel.root next ≡ state_term kernel.root state

abbrev pub LeavesSame : List SlotEntry → (next : State) → Type 0
LeavesSame journal next = (is_loaded journal ≡ false) ⊎ StandsFor journal next

-- another term is left than that of this state of the running module's kernel
pub record LeavesOther (journal : List SlotEntry) (next : State) : Type 0 where
  pub kernel : Kernel
  pub state : State
  pub left : IsLeftOf journal kernel state
  pub ordered : are_in_order kernel.root 0 ≡ true
  pub other : ¬ (state_term kernel.root next ≡ state_term kernel.root state)

-- after these entries it is as the opinion has it
abbrev pub Holds : List SlotEntry → SecondAnswer → Type 0
Holds journal NotAsked = Unit {0}
Holds journal Other = ⊥
Holds journal SameOutputs = Unit {0}
Holds journal (Same next) = LeavesSame journal next

-- after these entries it is not as the opinion has it
abbrev pub Fails : List SlotEntry → SecondAnswer → Type 0
Fails journal NotAsked = ⊥
Fails journal Other = Unit {0}
Fails journal SameOutputs = ⊥
Fails journal (Same next) = LeavesOther journal next
