-- What adding the cells of a statement does (this project's own form).
use Rattle.std.specs.Prelude.{◌≡◌, ◌+◌, ◌≤◌, ℕ, Bool, List, ◌++◌, length}
use Rattle.est_kernel.specs.declared.statement.Statement.{Statement}
use Rattle.est_net.specs.Owners.{own_owners, owners_in, statements}
use Rattle.est_net.specs.declared.owners.StatementCell.{StatementCell}
use Rattle.lab_instant.specs.OwnCells.{own_count}

-- those of its own are added at the end
pub record AddsOwn (i n t : ℕ) (declares : Bool) (old new : List StatementCell) : Type 0 where
  pub added : new ≡ old ++ own_owners i n t (own_count t declares)
  pub longer : length old + 1 ≤ length new

-- all of them are, and `next` is the number of the statement after it; there are no fewer cells than statements
pub record AddsOwners (main : Bool) (s : Statement) (i n t : ℕ) (old new : List StatementCell) (next : ℕ) : Type 0 where
  pub added : new ≡ old ++ owners_in main s i n t
  pub number : next ≡ n + statements s
  pub numbers : next ≤ length new
  pub longer : length old + 1 ≤ length new
