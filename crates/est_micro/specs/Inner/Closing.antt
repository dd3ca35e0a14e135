-- What closing a `||` whose sides were swept keeps, whichever of its cells it tells (this project's own form).
use Rattle.std.specs.Prelude.{◌+◌, ℕ, Bool, List}
use Rattle.est_kernel.specs.declared.statement.Statement.{Statement}
use Rattle.est_meaning.specs.Environments.{Env}
use Rattle.est_meaning.specs.Knowledge.{IsBelow}
use Rattle.est_meaning.specs.declared.status.Status.{Status}
use Rattle.est_cells.specs.Meaning.{begun}
use Rattle.est_cells.specs.Tables.{Below, sheet_size}
use Rattle.est_net.specs.Cells.{cell_at}
use Rattle.est_net.specs.Layout.{sheet_in}
use Rattle.est_micro.specs.Inner.Views.{Changes}

-- only cells of the statement have changed; where it is begun, if at all, as r tells, and no more of them was decided
-- than is meant, it is so still. The gate g may fall short of r
pub record Closes (main : Bool) (s : Statement) (c t : ℕ) (g : Status) (old new : List Status) : Type 0 where
  pub changes : Changes c (c + sheet_size main s t) old new
  pub sound : (r : Status) (e : Env) → IsBelow g r
      → Below main s (sheet_in (cell_at old) main s c t) (begun main s r e)
      → Below main s (sheet_in (cell_at new) main s c t) (begun main s r e)
