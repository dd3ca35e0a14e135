-- The outcome that a settled table tells (this project's own form).
use Rattle.std.specs.Prelude.{◌≡◌, false, List}
use Rattle.est_kernel.specs.Bits.{bits}
use Rattle.est_kernel.specs.CodeViews.{codes_of}
use Rattle.est_kernel.specs.declared.kernel.Kernel.{Kernel}
use Rattle.est_kernel.specs.declared.state.Inputs.{Inputs}
use Rattle.est_kernel.specs.declared.state.Outcome.{Outcome}
use Rattle.est_kernel.specs.declared.state.State.{State}
use Rattle.est_kernel.specs.declared.state.State.TheVariants.{Done}
use Rattle.est_meaning.specs.declared.status.Status.{Status}
use Rattle.est_rounds.specs.Contract.{IsReaction}
use Rattle.est_micro.specs.Engine.{HasValues}
use Rattle.est_micro.specs.Runs.{IsSettled}
use Rattle.est_micro.specs.declared.cells.Swept.{Swept}

-- it is the reaction to all inputs for which the table is settled, and the cells have their values in it
pub record IsOutcomeOf (k : Kernel) (x : State) (cells : List Status) (r : Swept) (o : Outcome) : Type 0 where
  pub reaction : (i : Inputs) → IsSettled k x (bits i.signals) cells r → IsReaction k x i o
  pub values : (i : Inputs) → IsSettled k x (bits i.signals) cells r → HasValues k x (bits i.signals) cells

-- the kernel had not ended, and the table has neither of the two codes
pub record HasNoCode (x : State) (r : Swept) : Type 0 where
  pub lives : x ≡ Done → ⊥
  pub ends : codes_of r.judged.must.codes 0 ≡ false
  pub pauses : codes_of r.judged.must.codes 1 ≡ false
