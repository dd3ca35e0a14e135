-- Whose the cells of a kernel are: one list of owners, in the order of the cells. Each statement has cells of its own
-- in each of its incarnations. Incarnation 0 goes on or is begun without a restart; incarnation i is begun by the
-- restart of the i-th loop around the statement, counted from the innermost outwards (this project's own form of the
-- incarnations in Berry, The Constructive Semantics of Pure Esterel).
use Rattle.std.specs.Prelude.{◌+◌, ℕ, suc, zero, Bool, true, false, cond, ltb, List, [], ◌∷◌, ◌++◌, length, map}
use Rattle.std.specs.List.{range_with_len}
use Rattle.est_kernel.specs.Interfaces.{emittable}
use Rattle.est_kernel.specs.declared.interface.Declaration.{Declaration}
use Rattle.est_kernel.specs.declared.kernel.Kernel.{Kernel}
use Rattle.est_kernel.specs.declared.statement.Statement.{Statement}
use Rattle.est_kernel.specs.declared.statement.Statement.TheVariants.{Nothing, Pause, Emit, Present', Suspend', Seq'}
use Rattle.est_kernel.specs.declared.statement.Statement.TheVariants.{Loop', Par', Trap', Exit, Local' as Binder'}
use Rattle.est_net.specs.declared.owners.CellKind.{CellKind}
use Rattle.est_net.specs.declared.owners.CellKind.TheVariants.{Go, Code, Status}
use Rattle.est_net.specs.declared.owners.StatementCell.{StatementCell}
use Rattle.est_net.specs.declared.owners.Owner.{Owner}
use Rattle.est_net.specs.declared.owners.Owner.TheVariants as owner

-- how many statements there are in a statement, itself counted: what follows it has the next number
abbrev pub statements : Statement → ℕ
statements Nothing = 1
statements (Pause i) = 1
statements (Emit s) = 1
statements (Exit k) = 1
statements (Present' t a p b q) = 1 + statements p + statements q
statements (Suspend' t a p) = 1 + statements p
statements (Seq' a p b q) = 1 + statements p + statements q
statements (Loop' a p) = 1 + statements p
statements (Par' a p b q) = 1 + statements p + statements q
statements (Trap' a p) = 1 + statements p
statements (Binder' s a p) = 1 + statements p

-- how many cells a statement inside t traps has of its own, in one incarnation
abbrev pub own_cells : Statement → (traps : ℕ) → ℕ
own_cells (Binder' s a p) t = t + 4
own_cells s t = t + 3

-- what each of them tells: the first whether the statement is begun, those after it the codes from 0 on, and the last
-- one of a binder the status of its signal
abbrev pub kind_at : (traps offset : ℕ) → CellKind
kind_at t zero = Go
kind_at t (suc n) = cond (ltb n (t + 2)) (Code n) Status

-- what a cell of the statement of number n tells, in incarnation i
abbrev pub cell_of : (i n : ℕ) → CellKind → StatementCell
cell_of i n kind = record { statement = n; incarnation = i; kind = kind }

-- the `own` cells that the statement of number n, inside t traps, has in incarnation i, in their order
abbrev pub own_owners : (i n t own : ℕ) → List StatementCell
own_owners i n t own = map (λ x. cell_of i n (kind_at t x)) (range_with_len 0 own)

-- the incarnation of the body in a loop's first sheet, by that of the loop: 0 stays 0; otherwise it is one more, since
-- this loop lies between the body and the loop whose restart begins it
abbrev pub inside_loop : Bool → ℕ → ℕ
inside_loop true i = i
inside_loop false i = i + 1

-- whose the cells in the sheet of a statement are, in their order: it has number n and lies inside t traps, this is its
-- incarnation i (0 if `main`), its own cells stand before those of its parts, and a loop's body that can go on stands
-- before the body as the loop's restart begins it
abbrev pub owners_in : (main : Bool) → Statement → (i n t : ℕ) → List StatementCell
owners_in main Nothing i n t = own_owners i n t (t + 3)
owners_in main (Pause k) i n t = own_owners i n t (t + 3)
owners_in main (Emit s) i n t = own_owners i n t (t + 3)
owners_in main (Exit k) i n t = own_owners i n t (t + 3)
owners_in main (Present' s a p b q) i n t =
    own_owners i n t (t + 3) ++ (owners_in main p i (n + 1) t ++ owners_in main q i (n + 1 + statements p) t)
owners_in main (Suspend' s a p) i n t = own_owners i n t (t + 3) ++ owners_in main p i (n + 1) t
owners_in main (Seq' a p b q) i n t =
    own_owners i n t (t + 3) ++ (owners_in main p i (n + 1) t ++ owners_in main q i (n + 1 + statements p) t)
owners_in main (Loop' a p) i n t = own_owners i n t (t + 3)
    ++ (owners_in main p (inside_loop main i) (n + 1) t ++ cond main (owners_in false p 1 (n + 1) t) [])
owners_in main (Par' a p b q) i n t =
    own_owners i n t (t + 3) ++ (owners_in main p i (n + 1) t ++ owners_in main q i (n + 1 + statements p) t)
owners_in main (Trap' a p) i n t = own_owners i n t (t + 3) ++ owners_in main p i (n + 1) (t + 1)
owners_in main (Binder' s a p) i n t = own_owners i n t (t + 4) ++ owners_in main p i (n + 1) t

-- the numbers before n that pass the test f, in their order
abbrev pub places : (ℕ → Bool) → ℕ → List ℕ
places f zero = []
places f (suc n) = places f n ++ cond (f n) (n ∷ []) []

-- the places of the signals of an interface that may be emitted
abbrev pub signal_places : List Declaration → List ℕ
signal_places i = places (emittable i) (length i)

-- whose the cells of a kernel are, in their order: those of the signals that may be emitted, by their places, and then
-- those of its statement
abbrev pub owners : Kernel → List Owner
owners k = map (λ n. owner.Signal n) (signal_places k.interface)
    ++ map (λ o. owner.Statement o) (owners_in true k.root 0 0 0)
