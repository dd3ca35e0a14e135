-- What the engine promises beside the contract of every engine (this project's own form).
use Rattle.std.specs.Prelude.{◌≡◌, ℕ, Bool, true, List, length}
use Rattle.est_kernel.specs.Bits.{bits}
use Rattle.est_kernel.specs.Interfaces.{emittable}
use Rattle.est_kernel.specs.declared.kernel.Kernel.{Kernel}
use Rattle.est_kernel.specs.Pauses.{pauses_of}
use Rattle.est_kernel.specs.declared.pause_set.PauseSet.{PauseSet}
use Rattle.est_kernel.specs.declared.state.State.{State}
use Rattle.est_kernel.specs.declared.state.State.TheVariants.{Paused}
use Rattle.est_meaning.specs.declared.status.Status.{Status}
use Rattle.est_cells.specs.Decided.{IsReactionOf, TableDecided}
use Rattle.est_cells.specs.Whole.{TableBelow, table_meaning}
use Rattle.est_meaning.specs.Rounds.{judged_signals}
use Rattle.est_net.specs.Cells.{decided}
use Rattle.est_net.specs.Emissions.{emissions}
use Rattle.est_net.specs.Extents.{HasExtents}
use Rattle.est_net.specs.Layout.{cell_count, output_count}
use Rattle.est_net.specs.Reach.{IsReachOf}
use Rattle.est_net.specs.declared.net.Net.{Net}
use Rattle.est_micro.specs.Runs.{AreOfferedTrue, table_of}

-- the table is that of the kernel, and so are what may be emitted and what is known of each statement
pub record IsNetOf (net : Net) (k : Kernel) : Type 0 where
  pub size : length net.cells.items ≡ cell_count k
  pub signals : bits net.emittable ≡ emittable k.interface
  pub outputs : net.output_count ≡ output_count k.interface
  pub reach : IsReachOf net.reach k.root
  pub extents : HasExtents net.extents.items 0 0 k.root
  pub emissions : net.emissions.items ≡ emissions true k.root (output_count k.interface) 0

-- every cell is decided, with its value in the reaction; a signal that was offered is present
pub record HasValues (k : Kernel) (x : State) (inputs : ℕ → Bool) (cells : List Status) : Type 0 where
  pub all : decided cells ≡ length cells
  pub offered : AreOfferedTrue k.interface inputs cells
  pub decided : TableDecided (judged_signals k.interface inputs) k.root (table_of k.interface k.root cells)
  pub values : IsReactionOf (judged_signals k.interface inputs) inputs k.root x (table_of k.interface k.root cells)

-- each cell that is decided is so in the meaning, with its value
abbrev pub IsSound : Kernel → State → (ℕ → Bool) → List Status → Type 0
IsSound k x inputs cells = TableBelow (judged_signals k.interface inputs) k.root (table_of k.interface k.root cells)
    (table_meaning (judged_signals k.interface inputs) inputs k.root x)

-- Each cell that is decided is so in the meaning, with its value; each cell that the meaning decides is decided. So the
-- open cells are exactly those that the meaning leaves open
pub record IsAsMeant (k : Kernel) (x : State) (inputs : ℕ → Bool) (cells : List Status) : Type 0 where
  pub sound : IsSound k x inputs cells
  pub whole : TableBelow (judged_signals k.interface inputs) k.root
      (table_meaning (judged_signals k.interface inputs) inputs k.root x) (table_of k.interface k.root cells)

-- the pauses from which a state goes on, if it does
abbrev pub GoesOnFrom : State → (ℕ → Bool) → Type 0
GoesOnFrom x from = (p : PauseSet) → x ≡ Paused p → from ≡ pauses_of p
