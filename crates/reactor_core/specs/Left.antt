-- What is left to run after a journal, as an engine has it: a kernel, and a state of it (this project's own form).
use Rattle.std.specs.Prelude.{◌≡◌, List, Some}
use Rattle.est_kernel.specs.View.{term_of}
use Rattle.est_kernel.specs.declared.kernel.Kernel.{Kernel}
use Rattle.est_kernel.specs.declared.state.State.{State}
use Rattle.est_meaning.specs.States.{IsState, state_term}
use Rattle.reactor_core.specs.declared.entry.Load.{Load as LoadEntry}
use Rattle.reactor_core.specs.declared.entry.SlotEntry.{SlotEntry}
use Rattle.reactor_core.specs.Loading.{GivenModule}
use Rattle.reactor_core.specs.Meaning.{last_load, ModuleOf, Leaves}

-- the kernel is that of the last load's module: it has its interface and its whole term
pub record IsKernelOf (journal : List SlotEntry) (k : Kernel) : Type 0 where
  pub load : LoadEntry
  pub last : last_load journal ≡ Some load
  pub given : GivenModule
  pub is : ModuleOf load given
  pub declares : k.interface ≡ given.interface
  pub begins : term_of k.root ≡ given.term

-- the kernel is that of the last load's module, and this state of it stands for the term that is left to run
pub record IsLeftOf (journal : List SlotEntry) (k : Kernel) (x : State) : Type 0 where
  pub kernel : IsKernelOf journal k
  pub fits : IsState k.root x
  pub leaves : Leaves journal (state_term k.root x)
