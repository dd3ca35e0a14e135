-- The lawful sets of inputs of an instant, and what is asked of them (this project's own form).
use Rattle.std.specs.Prelude.{◌≡◌, ℕ, Bool, true, ◌&&◌, Option, List}
use Rattle.std.specs.List.{Contains}
use Rattle.est_kernel.specs.Bits.{bits}
use Rattle.est_kernel.specs.Interfaces.{offerable}
use Rattle.est_kernel.specs.declared.interface.Declaration.{Declaration}
use Rattle.est_meaning.specs.Knowledge.{IsIn}
use Rattle.est_relations.specs.Keeping.{AreLawful}
use Rattle.est_relations.specs.declared.relations.Relation.{Relation}
use Rattle.est_cover.specs.declared.answered.AnsweredInputs.{AnsweredInputs}
use Rattle.state_search.specs.declared.transition_system.Step.{Step}

-- a set of signals of the interface, by their places
abbrev pub InputSet : Type 0
InputSet = ℕ → Bool

-- whether a signal may be offered: the interface lets it be, and somebody may
abbrev pub may_offer : List Declaration → (allowed : ℕ → Bool) → ℕ → Bool
may_offer interface allowed n = offerable interface n && allowed n

-- the set is the same as these inputs where it is asked
abbrev pub Agrees : (asked inputs : ℕ → Bool) → InputSet → Type 0
Agrees asked inputs set = (n : ℕ) → asked n ≡ true → set n ≡ inputs n

-- the mask is of signals that may be offered, and keeps the relations
pub record IsLawfulMask (may : ℕ → Bool) (relations : List Relation) (mask : ℕ) : Type 0 where
  pub offered : IsIn (bits mask) may
  pub kept : AreLawful relations (bits mask)

-- lawful inputs, and what a state answers to all that are the same where it was asked; what is watched was asked
pub record IsAsked {S A : Type 0} (answers : InputSet → A → Option S → Type 0) (may : ℕ → Bool)
    (relations : List Relation) (watched : ℕ → Bool) (i : AnsweredInputs A) (next : Option S) : Type 0 where
  pub lawful : IsLawfulMask may relations i.inputs
  pub asks : (n : ℕ) → may n ≡ true → watched n ≡ true → bits i.asked n ≡ true
  pub answer : (set : InputSet) → IsIn set may → Agrees (bits i.asked) (bits i.inputs) set → answers set i.answer next

-- some step is for these inputs
pub record HasInputs {S A : Type 0} (steps : List (Step S (AnsweredInputs A))) (inputs : InputSet) : Type 0 where
  pub step : Step S (AnsweredInputs A)
  pub listed : Contains steps step
  pub agrees : Agrees (bits step.label.asked) (bits step.label.inputs) inputs

-- for each lawful set of inputs there is a step
abbrev pub HaveAllInputs : {S A : Type 0} → (may : ℕ → Bool) → List Relation → List (Step S (AnsweredInputs A)) → Type 0
HaveAllInputs may relations steps = (inputs : InputSet) → IsIn inputs may → AreLawful relations inputs → HasInputs steps
    inputs
