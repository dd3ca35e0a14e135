-- The first sweep of an instant (this project's own form).
use Rattle.std.specs.Prelude.{ℕ, Bool, true, List}
use Rattle.est_kernel.specs.declared.kernel.Kernel.{Kernel}
use Rattle.est_kernel.specs.declared.state.State.{State}
use Rattle.est_meaning.specs.declared.status.Status.{Status}
use Rattle.est_meaning.specs.Views.{env_of}
use Rattle.est_meaning.specs.declared.signal_set.Env.{Env as Known}
use Rattle.est_net.specs.Layout.{output_count}
use Rattle.est_micro.specs.Parts.{AgreeBut}
use Rattle.est_micro.specs.Runs.{Ready, sheet_swept}
use Rattle.est_micro.specs.Inner.Views.{IsSwept}
use Rattle.est_micro.specs.declared.cells.Swept.{Swept}
use Rattle.est_micro.specs.declared.direction.Direction.{Direction}

-- a sweep by what is known, after a pass over the sides of a `||` or none
pub record IsFirstSweep (unasked inputs : ℕ → Bool) (k : Kernel) (x : State) (d : Direction) (env : Known)
    (old new : List Status) (r : Swept) : Type 0 where
  pub mid : List Status
  pub ready : (others : ℕ → Bool) → AgreeBut unasked inputs others → Ready unasked k x others old env
      → Ready unasked k x others mid env
  pub sweep : IsSwept true k.root (output_count k.interface) 0 (sheet_swept d k.root x (env_of env)) mid new r
