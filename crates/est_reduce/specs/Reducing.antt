-- What the reduction of a module answers: its kernel, or the first fault (this project's own form, over the table of
-- reductions).
use Rattle.std.specs.Prelude.{◌≡◌, List, Some, None, Result, MatchResult}
use Rattle.est_kernel.specs.Limits.{limit_passed}
use Rattle.est_kernel.specs.StartCodes.{IsLoopSafe}
use Rattle.est_kernel.specs.View.{term_of}
use Rattle.est_kernel.specs.declared.interface.Declaration.{Declaration}
use Rattle.est_kernel.specs.declared.kernel.Kernel.{Kernel}
use Rattle.est_reduce.specs.Bodies.{Body}
use Rattle.est_reduce.specs.Reductions.{kernel_term}
use Rattle.est_reduce.specs.declared.fault.ReduceFault.{ReduceFault}
use Rattle.est_reduce.specs.declared.fault.ReduceFault.TheVariants.{TooLarge, InstantLoop, Memory}

-- the kernel of a module: it has the module's interface and the kernel term of its body; the term passes no limit, and
-- each loop's body takes time
pub record IsKernelOf (interface : List Declaration) (p : Body) (k : Kernel) : Type 0 where
  pub declares : k.interface ≡ interface
  pub term : term_of k.root ≡ kernel_term p
  pub within_limits : limit_passed (kernel_term p) ≡ None
  pub loop_safe : IsLoopSafe (kernel_term p)

-- why a module has no kernel: the first limit that its kernel term passes, or else a loop whose body can end at once;
-- or memory was refused, which no definition foresees
abbrev pub IsFaultOf : Body → ReduceFault → Type 0
IsFaultOf p (TooLarge limit) = limit_passed (kernel_term p) ≡ Some limit
IsFaultOf p InstantLoop = (limit_passed (kernel_term p) ≡ None) × (IsLoopSafe (kernel_term p) → ⊥)
IsFaultOf p Memory = Unit {0}

-- the answer to a module of this interface and body
abbrev pub Reduces : List Declaration → Body → Result Kernel ReduceFault → Type 0
Reduces interface p answer = MatchResult answer (IsKernelOf interface p) (IsFaultOf p)
