-- How the cells of a kernel are laid out in one list: first a cell for each signal that may be emitted, and then the
-- cells of each statement before those of its parts, and beside a loop that can go on those of the body as its restart
-- begins it (this project's own form of the incarnations in Berry, The Constructive Semantics of Pure Esterel).
use Rattle.std.specs.Prelude.{ℕ, ◌+◌, Bool, true, false, ltb, ◌&&◌, List, length}
use Rattle.est_kernel.specs.Codes.{Codes}
use Rattle.est_kernel.specs.Interfaces.{emittable}
use Rattle.est_kernel.specs.declared.interface.Declaration.{Declaration}
use Rattle.est_kernel.specs.declared.kernel.Kernel.{Kernel}
use Rattle.est_kernel.specs.declared.statement.Statement.{Statement}
use Rattle.est_kernel.specs.declared.statement.Statement.TheVariants.{Nothing, Pause, Emit, Present', Suspend', Seq'}
use Rattle.est_kernel.specs.declared.statement.Statement.TheVariants.{Loop', Par', Trap', Exit, Local' as Binder'}
use Rattle.est_meaning.specs.Rounds.{how_many}
use Rattle.est_meaning.specs.declared.status.Status.{Status}
use Rattle.est_cells.specs.Tables.{Node, Parts, Sheet, sheet_size, make_again, is_sure, is_possible}
use Rattle.est_cells.specs.Whole.{Table}

-- of the codes whose cells stand from place c on, n of them: those that are true, and those that aren't false
unfoldable pub sure_codes : (ℕ → Status) → (c n : ℕ) → Codes
sure_codes f c n k = ltb k n && is_sure (f (c + k))

unfoldable pub possible_codes : (ℕ → Status) → (c n : ℕ) → Codes
possible_codes f c n k = ltb k n && is_possible (f (c + k))

-- a statement's own cells, from place c on, inside t traps: go, and the codes 0, 1 and one for each trap
abbrev pub node_in : {P : Type 0} → (ℕ → Status) → (c traps : ℕ) → P → Node P
node_in f c traps x = record {
  cells = record { go = f c; must = sure_codes f (c + 1) (traps + 2); may = possible_codes f (c + 1) (traps + 2) };
  parts = x;
}

-- the parts of a statement whose own cells begin at place c
abbrev pub parts_in : (ℕ → Status) → (main : Bool) (s : Statement) (c traps : ℕ) → Parts main s
parts_in f main Nothing c t = tt
parts_in f main (Pause i) c t = tt
parts_in f main (Emit s) c t = tt
parts_in f main (Exit k) c t = tt
parts_in f main (Present' x a p b q) c t =
    let d = c + t + 3 in
    let e = d + sheet_size main p t in
    record { first = node_in f d t (parts_in f main p d t); second = node_in f e t (parts_in f main q e t) }
parts_in f main (Suspend' x a p) c t = let d = c + t + 3 in node_in f d t (parts_in f main p d t)
parts_in f main (Seq' a p b q) c t =
    let d = c + t + 3 in
    let e = d + sheet_size main p t in
    record { first = node_in f d t (parts_in f main p d t); second = node_in f e t (parts_in f main q e t) }
parts_in f main (Loop' a p) c t =
    let d = c + t + 3 in
    let e = d + sheet_size main p t in
    record {
      first = node_in f d t (parts_in f main p d t);
      second = make_again main (node_in f e t (parts_in f false p e t));
    }
parts_in f main (Par' a p b q) c t =
    let d = c + t + 3 in
    let e = d + sheet_size main p t in
    record { first = node_in f d t (parts_in f main p d t); second = node_in f e t (parts_in f main q e t) }
parts_in f main (Trap' a p) c t = let d = c + t + 3 in node_in f d (t + 1) (parts_in f main p d (t + 1))
parts_in f main (Binder' s a p) c t =
    let d = c + t + 4 in
    record { status = f (c + t + 3); body = node_in f d t (parts_in f main p d t) }

-- the sheet of a statement, from place c on
abbrev pub sheet_in : (ℕ → Status) → (main : Bool) (s : Statement) (c traps : ℕ) → Sheet main s
sheet_in f main s c t = node_in f c t (parts_in f main s c t)

-- how many signals of an interface up to a place may be emitted: the cell of the one at that place
abbrev pub rank : List Declaration → ℕ → ℕ
rank i n = how_many (emittable i) n

-- how many signals of an interface may be emitted
abbrev pub output_count : List Declaration → ℕ
output_count i = rank i (length i)

-- how many cells the table of a kernel has: one for each signal that may be emitted, and those of its statement
abbrev pub cell_count : Kernel → ℕ
cell_count k = output_count k.interface + sheet_size true k.root 0

-- the table of a kernel with this interface and statement
abbrev pub table_in : List Declaration → (s : Statement) → (ℕ → Status) → Table s
table_in i s f = record { outputs = λ n. f (rank i n); sheet = sheet_in f true s (output_count i) 0 }
