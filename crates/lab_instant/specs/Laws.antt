-- What the cells that are read say, as the functions of the module of laws promise it (this project's own form).
use Rattle.std.specs.Prelude.{◌≡◌, ◌-◌, ℕ, Bool, true, List, Some, slice_get}
use Rattle.est_kernel.specs.declared.kernel.Kernel.{Kernel}
use Rattle.est_kernel.specs.declared.state.State.{State}
use Rattle.est_meaning.specs.Rounds.{judged_signals}
use Rattle.est_meaning.specs.declared.status.Status.{Status}
use Rattle.est_cells.specs.Whole.{table_meaning}
use Rattle.est_net.specs.Cells.{cell_at}
use Rattle.est_net.specs.Owners.{owners, owners_in}
use Rattle.est_net.specs.OwnerValues.{value_at}
use Rattle.est_net.specs.declared.owners.CellKind.TheVariants.{Go, Code}
use Rattle.est_net.specs.declared.owners.StatementCell.{StatementCell}
use Rattle.est_net.specs.declared.owners.Owner.TheVariants as owner
use Rattle.est_micro.specs.Engine.{IsAsMeant}

-- A cell is open exactly where the meaning leaves it undecided. Why care: what is named as undecided is so by the
-- program, and is not merely what an engine did not find out. Each cell of the statement, and each one of a signal that
-- the rounds judge, is as the meaning says, whether there is a reaction or not
pub record CellsAreMeant : Type 0 where
  pub statement : (k : Kernel) (x : State) (inputs : ℕ → Bool) (cells : List Status) → IsAsMeant k x inputs cells
      → (place : ℕ) (o : StatementCell) → slice_get (owners k) place ≡ Some (owner.Statement o)
      → cell_at cells place ≡ value_at k.root (table_meaning (judged_signals k.interface inputs) inputs k.root x)
      (owner.Statement o)
  pub signal : (k : Kernel) (x : State) (inputs : ℕ → Bool) (cells : List Status) → IsAsMeant k x inputs cells
      → (place n : ℕ) → slice_get (owners k) place ≡ Some (owner.Signal n)
      → (judged_signals k.interface inputs).has n ≡ true
      → cell_at cells place ≡ value_at k.root (table_meaning (judged_signals k.interface inputs) inputs k.root x)
      (owner.Signal n)

-- The go cell is that of the same statement. Why care: a statement is told to have gone on if it gave a code and was
-- not begun, in one and the same incarnation. The go cell of a statement stands before the cells of its codes
pub record GoIsTheSame : Type 0 where
  pub go : (k : Kernel) (place code : ℕ) (o : StatementCell)
      → slice_get (owners_in true k.root 0 0 0) place ≡ Some o → o.kind ≡ Code code
      → slice_get (owners_in true k.root 0 0 0) (place - code - 1)
      ≡ Some (record { statement = o.statement; incarnation = o.incarnation; kind = Go })
