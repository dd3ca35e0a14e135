-- The laws of the list of owners, as the functions of the module of laws promise them (this project's own form).
use Rattle.std.specs.Prelude.{◌≡◌, ◌<◌, ◌+◌, ◌*◌, ℕ, Bool, true, false, nat_eq, length, Some, slice_get}
use Rattle.std.specs.List.{count_by}
use Rattle.est_kernel.specs.declared.kernel.Kernel.{Kernel}
use Rattle.est_kernel.specs.declared.statement.Statement.{Statement}
use Rattle.est_meaning.specs.declared.status.Status.{Status}
use Rattle.est_cells.specs.Tables.{sheet_size}
use Rattle.est_net.specs.Layout.{cell_count, sheet_in, table_in}
use Rattle.est_net.specs.Owners.{statements, own_cells, owners_in, owners}
use Rattle.est_net.specs.OwnerValues.{value_in, value_at}
use Rattle.est_net.specs.Parts.{IsOwner, part_at}
use Rattle.est_net.specs.declared.owners.StatementCell.{StatementCell}
use Rattle.est_net.specs.declared.owners.Owner.{Owner}
use Rattle.est_net.specs.declared.owners.Owner.TheVariants as owner

-- there are as many owners as cells, in a sheet and in a kernel
pub record OwnersAreCounted : Type 0 where
  pub sheet : (main : Bool) (s : Statement) (i n t : ℕ) → length (owners_in main s i n t) ≡ sheet_size main s t
  pub kernel : (k : Kernel) → length (owners k) ≡ cell_count k

-- each signal that may be emitted, and each kind of cell of each statement in each of its incarnations, has exactly one
-- cell, and nothing else has one
pub record EachOwnerHasOneCell : Type 0 where
  pub some_cell : (k : Kernel) (o : Owner) → IsOwner k o → (x : ℕ) × (slice_get (owners k) x ≡ Some o)
  pub no_other : (k : Kernel) (x : ℕ) (o : Owner) → slice_get (owners k) x ≡ Some o → IsOwner k o
  pub one_cell : (k : Kernel) (x y : ℕ) (o : Owner) → slice_get (owners k) x ≡ Some o → slice_get (owners k) y ≡ Some o
      → x ≡ y

-- whether an owner is the statement of this number
abbrev pub is_statement : (number : ℕ) → Owner → Bool
is_statement n (owner.Signal place) = false
is_statement n (owner.Statement o) = nat_eq o.statement n

-- a statement inside d loops and t traps has (d + 1) (t + 3) cells, and one that declares a signal (d + 1) (t + 4)
pub record StatementsHaveCells : Type 0 where
  pub cells : (k : Kernel) (n : ℕ) → n < statements k.root
      → count_by (is_statement n) (owners k)
      ≡ ((part_at k.root 0 0 0 n).loops + 1)
      * own_cells (part_at k.root 0 0 0 n).statement (part_at k.root 0 0 0 n).traps

-- in a sheet that is read off a list of cells from place c on, and in a kernel's table, the cell of an owner is the one
-- at the owner's place
pub record OwnersAreRead : Type 0 where
  pub sheet : (main : Bool) (s : Statement) (i n c t : ℕ) (cells : ℕ → Status) → (main ≡ true → i ≡ 0)
      → (x : ℕ) (o : StatementCell) → slice_get (owners_in main s i n t) x ≡ Some o
      → value_in main s n (sheet_in cells main s c t) o ≡ cells (c + x)
  pub value : (k : Kernel) (cells : ℕ → Status) (x : ℕ) (o : Owner) → slice_get (owners k) x ≡ Some o
      → value_at k.root (table_in k.interface k.root cells) o ≡ cells x
