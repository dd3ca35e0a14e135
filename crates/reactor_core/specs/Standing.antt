-- What the parts of a reactor have to do with its journal: private to its invariant (this project's own form).
use Rattle.std.specs.Prelude.{◌≡◌, ℕ, List, Some, Ok, Err}
use Rattle.est_kernel.specs.View.{term_of}
use Rattle.est_kernel.specs.declared.state.Outcome.{Outcome}
use Rattle.est_kernel.specs.declared.state.State.{State}
use Rattle.est_meaning.specs.States.{IsState, state_term}
use Rattle.est_relations.specs.Offers.{PendingInputs, KeepsExclusions, IsFirstImplied, OfferAnswer}
use Rattle.est_relations.specs.declared.refusal.PendingRefusal.{PendingRefusal}
use Rattle.reactor_core.specs.declared.entry.PastInstant.{PastInstant}
use Rattle.est_micro.specs.Engine.{IsNetOf}
use Rattle.reactor_core.specs.declared.entry.Load.{Load as LoadEntry}
use Rattle.reactor_core.specs.declared.entry.SlotEntry.{SlotEntry}
use Rattle.reactor_core.specs.declared.kernel_module.Module.{Module}
use Rattle.reactor_core.specs.declared.reactor.parts.Parts.{Parts}
use Rattle.reactor_core.specs.declared.refusal.ReactorRefusal.{ReactorRefusal}
use Rattle.reactor_core.specs.Faults.{refusal_of_pending, implied}
use Rattle.reactor_core.specs.Loading.{GivenModule}
use Rattle.reactor_core.specs.Meaning.{last_load, instants_of, offers_of, mask_of, ModuleOf, Leaves}
use Rattle.reactor_core.specs.Reacting.{ReactsWith}

-- the module that a reactor holds, as a text gives it
abbrev pub given_by : Module → GivenModule
given_by m = record { interface = m.kernel.interface; relations = m.relations; term = term_of m.kernel.root }

-- pending inputs of a module
abbrev pub inputs_of_module : Module → (mask : ℕ) → PendingInputs
inputs_of_module m inputs = record { interface = m.kernel.interface; relations = m.relations; inputs = inputs }

-- pending inputs of a module are inputs, and they keep each exclusion
abbrev pub AreKept : Module → (mask : ℕ) → Type 0
AreKept m mask = KeepsExclusions m.kernel.interface m.relations mask

-- this module of the last load runs, with these pending inputs and these instants, and the state stands for the term
-- that is left of it
pub record IsRunning (journal : List SlotEntry) (m : Module) (state : State) (pending : ℕ)
    (instants : List PastInstant) : Type 0 where
  pub load : LoadEntry
  pub last : last_load journal ≡ Some load
  pub is : ModuleOf load (given_by m)
  pub offered : pending ≡ mask_of m.kernel.interface (offers_of journal)
  pub kept : AreKept m pending
  pub past : instants ≡ instants_of journal
  pub leaves : Leaves journal (state_term m.kernel.root state)
  pub fits : IsState m.kernel.root state

-- the reaction of what is left in this state to the pending inputs emits these outputs, and leaves what the next state
-- stands for
pub record IsNext (m : Module) (state : State) (pending outputs : ℕ) (next : State) : Type 0 where
  pub fits : IsState m.kernel.root next
  pub reacts : ReactsWith m.kernel.interface (state_term m.kernel.root state) pending outputs
      (state_term m.kernel.root next)

-- the parts of a reactor run, and the engine is for the kernel
pub record AreRunning (p : Parts) : Type 0 where
  pub running : IsRunning p.journal p.loaded p.state p.pending p.instants.items
  pub engine : IsNetOf p.engine.net p.loaded.kernel

-- this is the outcome of their next instant
abbrev pub HaveOutcome : Parts → Outcome → Type 0
HaveOutcome p o = IsNext p.loaded p.state p.pending o.outputs o.next

-- the pending inputs of a module with the input of this name are these
pub record OffersAs (m : Module) (pending : ℕ) (name : List ℕ) (after : ℕ) : Type 0 where
  pub answer : OfferAnswer (inputs_of_module m pending) name (Ok (record {})) (inputs_of_module m after)
  pub kept : AreKept m after

-- why the input of this name may not join the pending inputs of a module
pub record RefusesOffering (m : Module) (pending : ℕ) (name : List ℕ) (refusal : ReactorRefusal) : Type 0 where
  pub given : PendingRefusal
  pub told : refusal ≡ refusal_of_pending given
  pub answer : OfferAnswer (inputs_of_module m pending) name (Err given) (inputs_of_module m pending)

-- why an instant may not take the pending inputs of a module
pub record RefusesInstant (m : Module) (pending : ℕ) (refusal : ReactorRefusal) : Type 0 where
  pub number : ℕ
  pub missing : List ℕ
  pub told : refusal ≡ implied number missing
  pub first : IsFirstImplied (inputs_of_module m pending) number missing
