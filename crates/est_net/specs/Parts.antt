-- The parts of a statement by their numbers, and how many loops and traps lie around each (this project's own form).
use Rattle.std.specs.Prelude.{◌≡◌, ◌<◌, ◌≤◌, ◌+◌, ℕ, true, cond, ltb, nat_eq, length}
use Rattle.est_kernel.specs.Interfaces.{emittable}
use Rattle.est_kernel.specs.declared.kernel.Kernel.{Kernel}
use Rattle.est_kernel.specs.declared.statement.Statement.{Statement}
use Rattle.est_kernel.specs.declared.statement.Statement.TheVariants.{Nothing, Pause, Emit, Present', Suspend', Seq'}
use Rattle.est_kernel.specs.declared.statement.Statement.TheVariants.{Loop', Par', Trap', Exit, Local' as Binder'}
use Rattle.est_net.specs.Owners.{statements, own_cells, kind_at}
use Rattle.est_net.specs.declared.owners.CellKind.{CellKind}
use Rattle.est_net.specs.declared.owners.StatementCell.{StatementCell}
use Rattle.est_net.specs.declared.owners.Owner.{Owner}
use Rattle.est_net.specs.declared.owners.Owner.TheVariants as owner

-- a part of a statement, and how many loops and traps lie around it
pub record Part : Type 0 where
  pub statement : Statement
  pub loops : ℕ
  pub traps : ℕ

-- a statement as a part inside d loops and t traps
abbrev pub part : Statement → (d t : ℕ) → Part
part s d t = record { statement = s; loops = d; traps = t }

-- the statement of number m in one that has number n and lies inside d loops and t traps. It is asked for numbers from
-- n on, as many as there are statements
abbrev pub part_at : Statement → (n d t m : ℕ) → Part
part_at Nothing n d t m = part Nothing d t
part_at (Pause k) n d t m = part (Pause k) d t
part_at (Emit s) n d t m = part (Emit s) d t
part_at (Exit k) n d t m = part (Exit k) d t
part_at (Present' s a p b q) n d t m = cond (nat_eq m n) (part (Present' s a p b q) d t)
    (cond (ltb m (n + 1 + statements p)) (part_at p (n + 1) d t m) (part_at q (n + 1 + statements p) d t m))
part_at (Suspend' s a p) n d t m = cond (nat_eq m n) (part (Suspend' s a p) d t) (part_at p (n + 1) d t m)
part_at (Seq' a p b q) n d t m = cond (nat_eq m n) (part (Seq' a p b q) d t)
    (cond (ltb m (n + 1 + statements p)) (part_at p (n + 1) d t m) (part_at q (n + 1 + statements p) d t m))
part_at (Loop' a p) n d t m = cond (nat_eq m n) (part (Loop' a p) d t) (part_at p (n + 1) (d + 1) t m)
part_at (Par' a p b q) n d t m = cond (nat_eq m n) (part (Par' a p b q) d t)
    (cond (ltb m (n + 1 + statements p)) (part_at p (n + 1) d t m) (part_at q (n + 1 + statements p) d t m))
part_at (Trap' a p) n d t m = cond (nat_eq m n) (part (Trap' a p) d t) (part_at p (n + 1) d (t + 1) m)
part_at (Binder' s a p) n d t m = cond (nat_eq m n) (part (Binder' s a p) d t) (part_at p (n + 1) d t m)

-- what a cell of a part may tell: t + 3 kinds inside t traps, and one more where the part declares a signal
pub record IsKindOf (q : Part) (kind : CellKind) : Type 0 where
  pub offset : ℕ
  pub within : offset < own_cells q.statement q.traps
  pub same : kind ≡ kind_at q.traps offset

-- what a statement has cells of: each part in each kind, in its incarnations from 0 up to the number of loops around it
pub record IsCellOf (s : Statement) (o : StatementCell) : Type 0 where
  pub number : o.statement < statements s
  pub incarnation : o.incarnation ≤ (part_at s 0 0 0 o.statement).loops
  pub kind : IsKindOf (part_at s 0 0 0 o.statement) o.kind

-- what a kernel has cells of: the signals that may be emitted, and its statement
abbrev pub IsOwner : Kernel → Owner → Type 0
IsOwner k (owner.Signal n) = (n < length k.interface) × (emittable k.interface n ≡ true)
IsOwner k (owner.Statement o) = IsCellOf k.root o
