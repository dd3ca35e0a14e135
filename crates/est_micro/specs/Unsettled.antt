-- What is left open where only a part of the inputs is asked (this project's own form).
use Rattle.std.specs.Prelude.{◌≡◌, ◌≢◌, ℕ, Bool, List, length}
use Rattle.est_kernel.specs.declared.kernel.Kernel.{Kernel}
use Rattle.est_kernel.specs.declared.state.State.{State}
use Rattle.est_meaning.specs.declared.status.Status.{Status}
use Rattle.est_net.specs.Cells.{decided}
use Rattle.est_rounds.specs.Parts.{not_asked}
use Rattle.est_rounds.specs.declared.part_engine.Unsettled.{Unsettled}
use Rattle.est_micro.specs.Parts.{IsClosedBut}
use Rattle.est_micro.specs.Runs.{table_of}
use Rattle.est_micro.specs.Waiting.{table_waits_for}

-- A cell is open; by what is asked the gates decide nothing more; and it names the first input in the text that an open
-- test waits for, or none if there is no such test
pub record IsLeftOpen (k : Kernel) (x : State) (asked inputs : ℕ → Bool) (cells : List Status) (u : Unsettled)
    : Type 0 where
  pub some : decided cells ≢ length cells
  pub closed : IsClosedBut (not_asked k.interface asked) k.interface inputs k.root x (table_of k.interface k.root cells)
  pub first : u.waits_for
      ≡ table_waits_for (not_asked k.interface asked) k.interface inputs k.root x (table_of k.interface k.root cells)
