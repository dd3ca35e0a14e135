-- What a machine answers (this project's own form, over the definitions of est_meaning and est_relations).
use Rattle.std.specs.Prelude.{◌≡◌, ◌≢◌, ◌+◌, ℕ, List, Some, ◌&&◌, not, position}
use Rattle.est_kernel.specs.Bits.{bits}
use Rattle.est_kernel.specs.Interfaces.{offerable}
use Rattle.est_kernel.specs.declared.interface.Declaration.{Declaration}
use Rattle.est_kernel.specs.declared.kernel.Kernel.{Kernel}
use Rattle.est_kernel.specs.declared.state.Inputs.{Inputs}
use Rattle.est_kernel.specs.declared.state.State.{State}
use Rattle.est_meaning.specs.Knowledge.{IsIn}
use Rattle.est_relations.specs.Keeping.{keeps, AreLawful}
use Rattle.est_relations.specs.declared.relations.Relation.{Relation}
use Rattle.est_rounds.specs.Contract.{IsReaction, HasNoReaction}
use Rattle.est_machine.specs.declared.refusal.MachineRefusal.{MachineRefusal}
use Rattle.est_machine.specs.declared.refusal.MachineRefusal.TheVariants.{NotInputs, Broken, Stuck}

-- a kernel, the relations between its inputs, a digest of their module, and the state in which it stands
abbrev pub MachineState : Type 0
MachineState = Kernel × List Relation × List ℕ × State

-- the same module in another state
abbrev pub in_state : MachineState → State → MachineState
in_state m x = (m.0, m.1, m.2, x)

-- the inputs of an instant, as a mask
abbrev pub as_inputs : ℕ → Inputs
as_inputs mask = record { signals = mask }

-- inputs that an instant takes: each may be offered, and they keep each relation
pub record AreTaken (interface : List Declaration) (relations : List Relation) (mask : ℕ) : Type 0 where
  pub inputs : IsIn (bits mask) (offerable interface)
  pub lawful : AreLawful relations (bits mask)

-- why an instant doesn't take inputs: some may not be offered, and these are all of them; else they break a relation,
-- and this is the first one
pub data AreNotTaken (interface : List Declaration) (relations : List Relation) (mask : ℕ) : MachineRefusal
    → Type 0 where
  others : (more : ℕ) → more ≢ 0
      → ((n : ℕ) → bits more n ≡ (bits mask n && not (offerable interface n)))
      → AreNotTaken interface relations mask (NotInputs more)
  breaks : (place : ℕ) → IsIn (bits mask) (offerable interface)
      → position (λ r. not (keeps (bits mask) r)) relations ≡ Some place
      → AreNotTaken interface relations mask (Broken (place + 1))

-- the inputs are taken; their reaction emits these outputs, and the module then stands so
pub record Reacts (m : MachineState) (mask outputs : ℕ) (after : MachineState) : Type 0 where
  pub taken : AreTaken m.0.interface m.1 mask
  pub same : after ≡ in_state m after.3
  pub reaction : IsReaction m.0 m.3 (as_inputs mask) (record { outputs = outputs; next = after.3 })

-- why an instant is refused: its inputs are not taken; else there is no reaction, and these are the undecided signals
pub data IsRefused (m : MachineState) (mask : ℕ) : MachineRefusal → Type 0 where
  not_taken : (why : MachineRefusal) → AreNotTaken m.0.interface m.1 mask why → IsRefused m mask why
  stuck : (undecided : ℕ) → AreTaken m.0.interface m.1 mask
      → HasNoReaction m.0 m.3 (as_inputs mask) (record { undecided = undecided })
      → IsRefused m mask (Stuck undecided)
