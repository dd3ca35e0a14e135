-- Instants of the module that is loaded, one after another, and the way back (this project's own form).
use Rattle.std.specs.Prelude.{◌≡◌, ◌≤◌, ◌<◌, ◌⊎◌, ◌+◌, ◌-◌, ◌++◌, ◌∷◌, [], ℕ, List, Option, Some, None, Result, Ok, Err}
use Rattle.std.specs.Prelude.{false, length, slice_get, take}
use Rattle.std.specs.List.{Contains}
use Rattle.serde_json.specs.Written.{compact_text}
use Rattle.est_text.specs.Identifiers.{is_identifier}
use Rattle.est_kernel.specs.declared.state.State.{State}
use Rattle.est_kernel.specs.declared.state.State.TheVariants.{Fresh}
use Rattle.est_meaning.specs.States.{IsState}
use Rattle.est_meaning.specs.declared.status.Status.{Status}
use Rattle.est_relations.specs.Offers.{PendingInputs, OfferAnswer, ReadyAnswer}
use Rattle.est_relations.specs.declared.refusal.PendingRefusal.{PendingRefusal}
use Rattle.est_relations.specs.declared.refusal.PendingRefusal.TheVariants.{UnknownSignal}
use Rattle.reactor_core.specs.Standing.{inputs_of_module}
use Rattle.reactor_core.specs.declared.kernel_module.Module.{Module}
use Rattle.reactor_core.specs.declared.refusal.ModuleRefusal.TheVariants as of_module
use Rattle.access_core.specs.declared.refusal.Refusal.{Refusal}
use Rattle.access_core.specs.declared.refusal.Refusal.TheVariants as refusal
use Rattle.lab_instant.specs.Instants.{IsFor, IsInstant}
use Rattle.lab_instant.specs.declared.instant.InstantReader.{InstantReader}
use Rattle.lab_instant.specs.declared.seen.Instant.{Instant}
use Rattle.lab_instant.specs.declared.seen.Instant.TheVariants.{Reaction, Stuck}
use Rattle.lab_ties.specs.Stuck.{instant_ties}
use Rattle.lab_lines.specs.Inside.{back_json, inside_json}
use Rattle.lab_run.specs.declared.lab.LabReply.{LabReply}
use Rattle.lab_run.specs.declared.lab.LabReply.TheVariants.{Refused, Json, Line}

-- what is loaded: a module, and where it stood at the start and after each instant, of which the last is where it
-- stands
pub record SteppedState : Type 0 where
  pub loaded : Module
  pub states : List State

-- a module that stands at its start
abbrev pub at_start : Module → SteppedState
at_start m = record { loaded = m; states = Fresh ∷ [] }

-- the same module, where it stood so and so
abbrev pub standing_at : SteppedState → List State → SteppedState
standing_at s states = record { loaded = s.loaded; states = states }

-- it stands there: this is the last of the states
abbrev pub StandsAt : List State → State → Type 0
StandsAt states x = slice_get states (length states - 1) ≡ Some x

-- what reads instants is for the module's kernel, and each state is one of its root; there is one
pub record AreLoaded (m : Module) (inside : InstantReader) (states : List State) : Type 0 where
  pub engine : IsFor inside m.kernel
  pub fit : (x : State) → Contains states x → IsState m.kernel.root x
  pub some : 0 < length states

-- ---- the inputs of an instant

-- the answer to an offer of the name, and what is pending afterwards; a text that is no identifier is no signal's name
abbrev pub NameAnswer : PendingInputs → (name : List ℕ) → Result (Unit {0}) PendingRefusal → PendingInputs → Type 0
NameAnswer p name answer after =
    OfferAnswer p name answer after ⊎ ((is_identifier name ≡ false) × (answer ≡ Err UnknownSignal) × (after ≡ p))

-- inputs of these names are offered one after another: all of them are taken, and may come in one instant, and what is
-- pending then is answered; or it is answered why the first that is refused is
abbrev pub AreOffered : PendingInputs → (names : List (List ℕ)) → Result PendingInputs PendingRefusal → Type 0
AreOffered p [] (Ok after) = (after ≡ p) × ReadyAnswer p (Ok (record {}))
AreOffered p [] (Err fault) = ReadyAnswer p (Err fault)
AreOffered p (name ∷ names) answer =
    ((next : PendingInputs) × NameAnswer p name (Ok (record {})) next × AreOffered next names answer)
    ⊎ ((fault : PendingRefusal) × (after : PendingInputs) × NameAnswer p name (Err fault) after × (answer ≡ Err fault))

-- an instant of the module may take these inputs, which have these names
pub record MayTake (m : Module) (names : List (List ℕ)) (inputs : ℕ) : Type 0 where
  pub pending : PendingInputs
  pub offered : AreOffered (inputs_of_module m 0) names (Ok pending)
  pub taken : inputs ≡ pending.inputs

-- no instant of the module may take the inputs of these names, for this reason
pub record MayNotTake (m : Module) (names : List (List ℕ)) (given : Refusal) : Type 0 where
  pub fault : PendingRefusal
  pub told : given ≡ refusal.Module (of_module.Pending fault)
  pub first : AreOffered (inputs_of_module m 0) names (Err fault)

-- ---- an instant

-- the instant of the module in this state with these inputs is told as it is seen from inside; of one that is stuck
-- what is tied to each signal that is not decided; the line is the text of that value, and the LF
pub record IsInstantAt (m : Module) (state : State) (inputs : ℕ) (instant : Instant) (line : List ℕ)
    : Type 0 where
  pub cells : List Status
  pub right : IsInstant m.kernel state (record { signals = inputs }) cells instant
  pub said : line
      ≡ compact_text (inside_json m.kernel.interface instant (instant_ties m.kernel cells instant)) ++ 10 ∷ []

-- the same of the state where the module stands
pub record IsInstantOf (s : SteppedState) (inputs : ℕ) (instant : Instant) (line : List ℕ) : Type 0 where
  pub state : State
  pub stands : StandsAt s.states state
  pub is : IsInstantAt s.loaded state inputs instant line

-- the same, with the inputs of these names
pub record IsInstantTold (s : SteppedState) (names : List (List ℕ)) (instant : Instant) (line : List ℕ)
    : Type 0 where
  pub inputs : ℕ
  pub taken : MayTake s.loaded names inputs
  pub is : IsInstantOf s inputs instant line

-- where the module stands after the instant: at its next state, or if it is stuck where it stood
abbrev pub states_after : List State → Instant → List State
states_after states (Reaction o seen) = states ++ o.next ∷ []
states_after states (Stuck undecided seen) = states

-- the instant is made
abbrev pub Makes : (before : SteppedState) → (names : List (List ℕ)) → LabReply → (after : SteppedState) → Type 0
Makes before names (Refused given) after = MayNotTake before.loaded names given × (after ≡ before)
Makes before names (Json v) after = ⊥
Makes before names (Line line) after = (instant : Instant) × IsInstantTold before names instant line.items
    × (after ≡ standing_at before (states_after before.states instant))

-- the instant is told, and the module stays where it stands
abbrev pub Tries : (before : SteppedState) → (names : List (List ℕ)) → LabReply → (after : SteppedState) → Type 0
Tries before names (Refused given) after = MayNotTake before.loaded names given × (after ≡ before)
Tries before names (Json v) after = ⊥
Tries before names (Line line) after =
    ((instant : Instant) × IsInstantTold before names instant line.items) × (after ≡ before)

-- ---- the way back

-- the module stands where it stood after so many instants, and what came later is gone
pub record IsBack (before : SteppedState) (to : ℕ) (line : List ℕ) (after : SteppedState) : Type 0 where
  pub state : State
  pub there : slice_get before.states to ≡ Some state
  pub is : after ≡ standing_at before (take (to + 1) before.states)
  pub said : line ≡ compact_text (back_json state) ++ 10 ∷ []

-- the same, or there were not so many
abbrev pub GoesBack : (before : SteppedState) → (to : ℕ) → LabReply → (after : SteppedState) → Type 0
GoesBack before to (Refused given) after =
    (given ≡ refusal.Module of_module.NoInstant) × (length before.states ≤ to) × (after ≡ before)
GoesBack before to (Json v) after = ⊥
GoesBack before to (Line line) after = IsBack before to line.items after

-- ---- where nothing may be loaded

-- nothing is loaded, and that is told
abbrev pub IsEmpty : LabReply → (after : Option SteppedState) → Type 0
IsEmpty told after = (told ≡ Refused refusal.Empty) × (after ≡ None)

-- the same, or what is done with what is loaded, which is loaded afterwards too
abbrev pub MakesIf : (before : Option SteppedState) → (names : List (List ℕ)) → LabReply → (after : Option SteppedState)
    → Type 0
MakesIf None names told after = IsEmpty told after
MakesIf (Some s) names told None = ⊥
MakesIf (Some s) names told (Some t) = Makes s names told t

abbrev pub TriesIf : (before : Option SteppedState) → (names : List (List ℕ)) → LabReply → (after : Option SteppedState)
    → Type 0
TriesIf None names told after = IsEmpty told after
TriesIf (Some s) names told None = ⊥
TriesIf (Some s) names told (Some t) = Tries s names told t

abbrev pub GoesBackIf : (before : Option SteppedState) → (to : ℕ) → LabReply → (after : Option SteppedState) → Type 0
GoesBackIf None to told after = IsEmpty told after
GoesBackIf (Some s) to told None = ⊥
GoesBackIf (Some s) to told (Some t) = GoesBack s to told t
