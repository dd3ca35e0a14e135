-- What a sheet knows of an owner, found by the statement's number, its incarnation and the kind of the cell (this
-- project's own form).
use Rattle.std.specs.Prelude.{◌+◌, ℕ, Bool, true, false, cond, ltb, nat_eq}
use Rattle.est_kernel.specs.declared.statement.Statement.{Statement}
use Rattle.est_kernel.specs.declared.statement.Statement.TheVariants.{Nothing, Pause, Emit, Present', Suspend', Seq'}
use Rattle.est_kernel.specs.declared.statement.Statement.TheVariants.{Loop', Par', Trap', Exit, Local' as Binder'}
use Rattle.est_meaning.specs.Environments.{verdict}
use Rattle.est_meaning.specs.declared.status.Status.{Status}
use Rattle.est_meaning.specs.declared.status.Status.TheVariants.{Unknown}
use Rattle.est_cells.specs.Tables.{Cells, Sheet, of_again}
use Rattle.est_cells.specs.Whole.{Table}
use Rattle.est_net.specs.Owners.{statements}
use Rattle.est_net.specs.Parts.{part_at}
use Rattle.est_net.specs.declared.owners.CellKind.{CellKind}
use Rattle.est_net.specs.declared.owners.CellKind.TheVariants.{Go, Code, Status as OfSignal}
use Rattle.est_net.specs.declared.owners.StatementCell.{StatementCell}
use Rattle.est_net.specs.declared.owners.Owner.{Owner}
use Rattle.est_net.specs.declared.owners.Owner.TheVariants as owner

-- a cell of a statement's own, by its kind; `signal` is the cell of the local signal (Unknown where there is none)
abbrev pub own_value : Cells → (signal : Status) → CellKind → Status
own_value c v Go = c.go
own_value c v (Code k) = verdict (c.must k) (c.may k)
own_value c v OfSignal = v

-- the cell of this owner in the sheet of a statement that has number n. A loop that has its body twice has it in the
-- restart's sheet if the incarnation counts the loops from the owner's statement outwards up to this one
abbrev pub value_in : (main : Bool) (s : Statement) (n : ℕ) → Sheet main s → StatementCell → Status
value_in main Nothing n T o = own_value T.cells Unknown o.kind
value_in main (Pause k) n T o = own_value T.cells Unknown o.kind
value_in main (Emit s) n T o = own_value T.cells Unknown o.kind
value_in main (Exit k) n T o = own_value T.cells Unknown o.kind
value_in main (Present' s a p b q) n T o = cond (nat_eq o.statement n) (own_value T.cells Unknown o.kind)
    (cond (ltb o.statement (n + 1 + statements p)) (value_in main p (n + 1) T.parts.first o)
    (value_in main q (n + 1 + statements p) T.parts.second o))
value_in main (Suspend' s a p) n T o = cond (nat_eq o.statement n) (own_value T.cells Unknown o.kind)
    (value_in main p (n + 1) T.parts o)
value_in main (Seq' a p b q) n T o = cond (nat_eq o.statement n) (own_value T.cells Unknown o.kind)
    (cond (ltb o.statement (n + 1 + statements p)) (value_in main p (n + 1) T.parts.first o)
    (value_in main q (n + 1 + statements p) T.parts.second o))
value_in main (Loop' a p) n T o = cond (nat_eq o.statement n) (own_value T.cells Unknown o.kind)
    (of_again main (value_in main p (n + 1) T.parts.first o)
    (λ x. cond (nat_eq o.incarnation ((part_at p (n + 1) 0 0 o.statement).loops + 1)) (value_in false p (n + 1) x o)
    (value_in main p (n + 1) T.parts.first o)) T.parts.second)
value_in main (Par' a p b q) n T o = cond (nat_eq o.statement n) (own_value T.cells Unknown o.kind)
    (cond (ltb o.statement (n + 1 + statements p)) (value_in main p (n + 1) T.parts.first o)
    (value_in main q (n + 1 + statements p) T.parts.second o))
value_in main (Trap' a p) n T o = cond (nat_eq o.statement n) (own_value T.cells Unknown o.kind)
    (value_in main p (n + 1) T.parts o)
value_in main (Binder' s a p) n T o = cond (nat_eq o.statement n) (own_value T.cells T.parts.status o.kind)
    (value_in main p (n + 1) T.parts.body o)

-- the cell of this owner in a table
abbrev pub value_at : (s : Statement) → Table s → Owner → Status
value_at s T (owner.Signal place) = T.outputs place
value_at s T (owner.Statement o) = value_in true s 0 T.sheet o
