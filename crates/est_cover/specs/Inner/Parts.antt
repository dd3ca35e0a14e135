-- Parts of the lawful sets of inputs (this project's own form).
use Rattle.std.specs.Prelude.{◌≡◌, ◌≢◌, ◌<◌, ℕ, Bool, true, false, Option, Some, List, ◌++◌, length}
use Rattle.std.specs.Bool.{MatchBool}
use Rattle.std.specs.List.{All, AllPairs}
use Rattle.est_kernel.specs.Bits.{bits}
use Rattle.est_kernel.specs.Interfaces.{emittable, offerable}
use Rattle.est_kernel.specs.declared.interface.Declaration.{Declaration}
use Rattle.est_meaning.specs.Knowledge.{IsIn}
use Rattle.est_relations.specs.Keeping.{AreLawful}
use Rattle.est_relations.specs.declared.relations.Relation.{Relation}
use Rattle.est_cover.specs.InputSets.{InputSet, IsAsked, HasInputs}
use Rattle.est_cover.specs.declared.answered.AnsweredInputs.{AnsweredInputs}
use Rattle.est_cover.specs.declared.cover.Next.{Next}
use Rattle.est_cover.specs.declared.cover.Next.TheVariants.{Step as Stepped, Split}
use Rattle.est_cover.specs.declared.part.Part.{Part}
use Rattle.est_cover.specs.declared.forced.Forced.{Forced}
use Rattle.est_cover.specs.declared.forced.Forced.TheVariants.{Broken, Present, Absent}
use Rattle.state_search.specs.declared.transition_system.Step.{Step}

-- of the signals that are not unasked, the set has those in `inputs`
abbrev pub HasPart : (unasked inputs : ℕ) → InputSet → Type 0
HasPart unasked inputs set = (n : ℕ) → bits unasked n ≡ false → set n ≡ bits inputs n

-- a part of the inputs: which signals are unasked, and which of the others are offered
pub record IsPart (may : ℕ → Bool) (unasked inputs : ℕ) : Type 0 where
  pub unasked_offered : IsIn (bits unasked) may
  pub offered : IsIn (bits inputs) may
  pub apart : (n : ℕ) → bits unasked n ≡ true → bits inputs n ≡ false

-- of the signal at the place it is known now whether it is offered
pub record IsNarrower (place : ℕ) (is : Bool) (old new : Part) : Type 0 where
  pub known : bits new.unasked place ≡ false
  pub unasked : (n : ℕ) → n ≢ place → bits new.unasked n ≡ bits old.unasked n
  pub offered : bits new.inputs place ≡ is
  pub inputs : (n : ℕ) → n ≢ place → bits new.inputs n ≡ bits old.inputs n

-- what is said of the lawful sets that have the part
abbrev pub IsForced : Forced → (lawful : InputSet → Type 0) → (unasked inputs : ℕ) → Type 0
IsForced Broken lawful unasked inputs = (set : InputSet) → HasPart unasked inputs set → lawful set → ⊥
IsForced (Present p) lawful unasked inputs = (bits unasked p ≡ true)
    × ((set : InputSet) → HasPart unasked inputs set → lawful set → set p ≡ true)
IsForced (Absent p) lawful unasked inputs = (bits unasked p ≡ true)
    × ((set : InputSet) → HasPart unasked inputs set → lawful set → set p ≡ false)

-- these are the signals that may be offered, and those that may be emitted too are watched
pub record AreWatched (interface : List Declaration) (offer may watched : ℕ) : Type 0 where
  pub all : bits offer ≡ offerable interface
  pub offered : IsIn (bits may) (offerable interface)
  pub emitted : (n : ℕ) → bits may n ≡ true → emittable interface n ≡ true → bits watched n ≡ true

-- the step is that of each set of inputs that has the part
pub record IsStepOf {S A : Type 0} (answers : InputSet → A → Option S → Type 0) (is_state : S → Type 0) (may : ℕ → Bool)
    (relations : List Relation) (watched : ℕ → Bool) (unasked inputs : ℕ) (s : Step S (AnsweredInputs A)) : Type 0 where
  pub sound : IsAsked answers may relations watched s.label s.next
  pub state : (y : S) → s.next ≡ Some y → is_state y
  pub is : s.label.inputs ≡ inputs
  pub asked : (n : ℕ) → bits s.label.asked n ≡ true → bits unasked n ≡ false

-- what comes of a part: its step, or a signal that is unasked
abbrev pub IsNext : {S A : Type 0} → (answers : InputSet → A → Option S → Type 0) → (is_state : S → Type 0)
    → (may : ℕ → Bool) → List Relation → (watched : ℕ → Bool) → (unasked inputs : ℕ) → Next S A → Type 0
IsNext answers is_state may relations watched unasked inputs (Stepped s) =
    IsStepOf answers is_state may relations watched unasked inputs s
IsNext answers is_state may relations watched unasked inputs (Split p) = bits unasked p ≡ true

-- the steps of the sets of inputs that have this part are added; or there are more steps than `most` before all are
pub record IsCovered {S A : Type 0} (answers : InputSet → A → Option S → Type 0) (is_state : S → Type 0)
    (may : ℕ → Bool) (relations : List Relation) (watched : ℕ → Bool) (unasked inputs most : ℕ) (whole : Bool)
    (old new : List (Step S (AnsweredInputs A))) : Type 0 where
  pub more : List (Step S (AnsweredInputs A))
  pub split : new ≡ old ++ more
  pub sound : All (λ s. IsAsked answers may relations watched s.label s.next) more
  pub states : All (λ s. (y : S) → s.next ≡ Some y → is_state y) more
  pub within : All (λ s. HasPart unasked inputs (bits s.label.inputs)) more
  pub differ : AllPairs (λ a b. a.label.inputs ≢ b.label.inputs) more
  pub all : MatchBool whole
      ((set : InputSet) → IsIn set may → AreLawful relations set → HasPart unasked inputs set → HasInputs more set)
      (most < length new)
