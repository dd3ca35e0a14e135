-- What comes of looking for a cell among those of a statement: private to the reader of owners.
use Rattle.std.specs.Prelude.{◌≡◌, ◌≤◌, ◌+◌, ◌-◌, ℕ, Bool, List, Some, slice_get}
use Rattle.est_kernel.specs.declared.statement.Statement.{Statement}
use Rattle.est_cells.specs.Tables.{sheet_size}
use Rattle.est_net.specs.Owners.{owners_in, statements}
use Rattle.est_net.specs.declared.owners.Spot.{Spot}
use Rattle.est_net.specs.declared.owners.Search.{Search}
use Rattle.est_net.specs.declared.owners.Search.TheVariants.{Found, After}
use Rattle.est_net.specs.declared.owners.StatementCell.{StatementCell}

-- where the cells of a statement end that begin at this spot, and the number of what follows it; all of them lie
-- before the cell
pub record IsAfter (main : Bool) (s : Statement) (at : Spot) (traps cell : ℕ) (next : Spot) : Type 0 where
  pub number : next.statement ≡ at.statement + statements s
  pub place : next.cell ≡ at.cell + sheet_size main s traps
  pub low : next.cell ≤ cell
  pub numbers : next.statement ≤ next.cell
  pub later : at.cell ≤ next.cell

-- this cell is one of those from place `first` on that have these owners, and this is its owner
pub record IsAmong (first : ℕ) (list : List StatementCell) (cell : ℕ) (o : StatementCell) : Type 0 where
  pub from : first ≤ cell
  pub here : slice_get list (cell - first) ≡ Some o

-- whose the cell is, or that it lies after those of the statement
abbrev pub Finds : (main : Bool) → Statement → (incarnation : ℕ) → Spot → (traps cell : ℕ) → Search → Type 0
Finds main s i at t x (Found o) = IsAmong at.cell (owners_in main s i at.statement t) x o
Finds main s i at t x (After next) = IsAfter main s at t x next
