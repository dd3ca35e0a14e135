-- What C is told of a load (this project's own form).
use Rattle.std.specs.Prelude.{◌≡◌, ℕ, List, Some, IsUtf8}
use Rattle.est_kernel.specs.View.{term_of}
use Rattle.est_kernel.specs.declared.state.State.TheVariants.{Fresh}
use Rattle.reactor_core.specs.Refusals.{code_of}
use Rattle.reactor_core.specs.declared.refusal.ModuleRefusal.{ModuleRefusal}
use Rattle.reactor_core.specs.declared.refusal.ModuleRefusal.TheVariants.{Lexical, Syntax}
use Rattle.reactor_core.specs.declared.refusal.ReactorRefusal.{ReactorRefusal}
use Rattle.reactor_core.specs.declared.refusal.ReactorRefusal.TheVariants as refusal
use Rattle.reactor_core.specs.Loading.{Gives, IsLoadFault}
use Rattle.est_machine.specs.Machines.{MachineState}
use Rattle.est_host.specs.Digests.{digest_of}
use Rattle.est_host.specs.declared.loading.HostFault.{HostFault}
use Rattle.est_host.specs.declared.loading.TheConstants.{MEMORY, NOT_TEXT}
use Rattle.est_host.specs.declared.running.HostedMachine.{HostedMachine}

-- a fault of this number at this place; 0 and 0 where there is none
abbrev pub fault : (code line column : ℕ) → HostFault
fault c l k = record { code = c; line = l; column = k }

-- the number that the server has for the refusal; a fault of the text's words has its place
abbrev pub fault_in_text : ModuleRefusal → HostFault
fault_in_text (Lexical place) = fault (code_of (Lexical place)) place.line place.column
fault_in_text (Syntax place) = fault (code_of (Syntax place)) place.line place.column
fault_in_text other = fault (code_of other) 0 0

-- what is told of a refusal
abbrev pub fault_of : ReactorRefusal → HostFault
fault_of (refusal.Module why) = fault_in_text why
fault_of refusal.JournalFull = fault MEMORY 0 0
fault_of refusal.Memory = fault MEMORY 0 0

-- what is told of a load that is refused: name or text isn't UTF-8, or it is the first fault, or memory was refused
pub data IsLoadFaultTold (main text : List ℕ) : HostFault → Type 0 where
  not_text : (IsUtf8 main → IsUtf8 text → ⊥) → IsLoadFaultTold main text (fault NOT_TEXT 0 0)
  refused : (why : ReactorRefusal) → IsLoadFault main text why → IsLoadFaultTold main text (fault_of why)
  no_memory : IsLoadFaultTold main text (fault MEMORY 0 0)

-- the module that the text and the name of its main module give stands before its first instant
pub record IsBegun (main text : List ℕ) (m : MachineState) : Type 0 where
  pub gives : Gives main text (record { interface = m.0.interface; relations = m.1; term = term_of m.0.root })
  pub digest : m.2 ≡ digest_of main text
  pub fresh : m.3 ≡ Fresh

-- the machine that text and name give has not begun
pub record IsStarted (main text : List ℕ) (r : HostedMachine) : Type 0 where
  pub machine : MachineState
  pub there : r.machine ≡ Some machine
  pub begun : IsBegun main text machine
