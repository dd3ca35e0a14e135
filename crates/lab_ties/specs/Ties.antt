-- What waits for a signal that is not decided, and what may still emit it, read off the cells (this project's own form,
-- after the gates: a statement is tied to a signal if one of its gates asks for it and is open).
use Rattle.std.specs.Prelude.{◌≡◌, ◌≤◌, ◌+◌, ◌&&◌, ◌||◌, ℕ, Bool, false, cond, not, List, [], ◌∷◌, ◌++◌}
use Rattle.est_kernel.specs.Term.{Name, inner, Query, tick, of, negated, joined, Queries, last, more, Joint}
use Rattle.est_kernel.specs.View.{name_of, query_of}
use Rattle.est_kernel.specs.declared.statement.Statement.{Statement}
use Rattle.est_kernel.specs.declared.statement.Statement.TheVariants.{Nothing, Pause, Emit, Present', Suspend', Seq'}
use Rattle.est_kernel.specs.declared.statement.Statement.TheVariants.{Loop', Par', Trap', Exit, Local' as Binder'}
use Rattle.est_meaning.specs.Environments.{is_unknown}
use Rattle.est_meaning.specs.Signals.{same_name}
use Rattle.est_meaning.specs.declared.status.Status.{Status}
use Rattle.est_cells.specs.Tables.{Sheet, of_again, is_possible, sheet_size}
use Rattle.est_net.specs.Cells.{cell_at}
use Rattle.est_net.specs.Layout.{sheet_in}
use Rattle.est_net.specs.Owners.{statements, inside_loop}
use Rattle.lab_ties.specs.Places.{incarnation}
use Rattle.lab_instant.specs.declared.seen.Incarnation.{Incarnation}
use Rattle.lab_ties.specs.declared.tie.OpenSignal.{OpenSignal}
use Rattle.lab_ties.specs.declared.tie.OpenSignal.TheVariants as of_signal
use Rattle.lab_ties.specs.declared.tie.TieKind.{TieKind}
use Rattle.lab_ties.specs.declared.tie.TieKind.TheVariants.{Waits, MayEmit}
use Rattle.lab_ties.specs.declared.tie.Tie.{Tie}
use Rattle.lab_ties.specs.declared.place.NextPlace.{NextPlace}
use Rattle.lab_ties.specs.declared.place.TwoPlaces.{TwoPlaces}
use Rattle.lab_ties.specs.declared.place.IncarnationPlace.{IncarnationPlace}
use Rattle.lab_ties.specs.declared.ties.Wanted.{Wanted}

abbrev mutual
  -- whether a test asks for the signal
  pub reads : Name → Query → Bool
  reads x tick = false
  reads x (of s) = same_name s x
  reads x (negated t) = reads x t
  reads x (joined c t ts) = reads x t || reads_of_all x ts

  -- whether one of these tests does
  pub reads_of_all : Name → Queries → Bool
  reads_of_all x (last t) = reads x t
  reads_of_all x (more t ts) = reads x t || reads_of_all x ts

-- the same for operands
abbrev pub reads_of_joint : Name → Joint → Bool
reads_of_joint x o = reads x o.first || reads_of_all x o.later

-- this tie, if the test holds
abbrev pub tie_if : Bool → OpenSignal → Incarnation → TieKind → List Tie
tie_if b s at kind = cond b (record { signal = s; at = at; kind = kind } ∷ []) []

-- the test of a `present` is not answered: it may be asked, and of neither branch it is decided whether it is begun
abbrev pub is_unanswered : (go first second : Status) → Bool
is_unanswered go first second = is_possible go && (is_unknown first && is_unknown second)

-- the test of a `suspend` is not answered: it goes on, and may pause, and needn't. By its own cells alone: where its
-- test asks for several signals, this can be so though the others answer it
abbrev pub is_in_doubt : (go : Status) → (must may : Bool) → Bool
is_in_doubt go must may = not (is_possible go) && (may && not must)

-- what is tied to a signal in the sheet of a statement that has number n, in incarnation i: of each statement after its
-- parts. An emission of the signal is if it is open whether it is begun; a test that asks for the signal is if it is
-- not answered. x is the signal's name, and s whose it is
abbrev pub ties : (x : Name) (s : OpenSignal) → (main : Bool) (p : Statement) (i n : ℕ) → Sheet main p → List Tie
ties x s main Nothing i n T = []
ties x s main (Pause k) i n T = []
ties x s main (Emit m) i n T = tie_if (is_unknown T.cells.go && same_name (name_of m) x) s (incarnation i n) MayEmit
ties x s main (Exit k) i n T = []
ties x s main (Present' t a p b q) i n T = ties x s main p i (n + 1) T.parts.first
    ++ (ties x s main q i (n + 1 + statements p) T.parts.second
    ++ tie_if (is_unanswered T.cells.go T.parts.first.cells.go T.parts.second.cells.go && reads x (query_of t)) s
    (incarnation i n) Waits)
ties x s main (Suspend' t a p) i n T = ties x s main p i (n + 1) T.parts
    ++ tie_if (is_in_doubt T.cells.go (T.cells.must 1) (T.cells.may 1) && reads x (query_of t)) s
    (incarnation i n) Waits
ties x s main (Seq' a p b q) i n T =
    ties x s main p i (n + 1) T.parts.first ++ ties x s main q i (n + 1 + statements p) T.parts.second
ties x s main (Loop' a p) i n T = ties x s main p (inside_loop main i) (n + 1) T.parts.first
    ++ of_again main [] (ties x s false p 1 (n + 1)) T.parts.second
ties x s main (Par' a p b q) i n T =
    ties x s main p i (n + 1) T.parts.first ++ ties x s main q i (n + 1 + statements p) T.parts.second
ties x s main (Trap' a p) i n T = ties x s main p i (n + 1) T.parts
ties x s main (Binder' m a p) i n T = ties x s main p i (n + 1) T.parts.body

-- the signal that the statement of number n declares in incarnation i
abbrev pub declared : (i n : ℕ) → OpenSignal
declared i n = of_signal.Local (incarnation i n)

-- what is tied to the local signals that are not decided, in the same sheet: to that of a binder before those inside it
abbrev pub local_ties : (main : Bool) (p : Statement) (i n : ℕ) → Sheet main p → List Tie
local_ties main Nothing i n T = []
local_ties main (Pause k) i n T = []
local_ties main (Emit m) i n T = []
local_ties main (Exit k) i n T = []
local_ties main (Present' t a p b q) i n T =
    local_ties main p i (n + 1) T.parts.first ++ local_ties main q i (n + 1 + statements p) T.parts.second
local_ties main (Suspend' t a p) i n T = local_ties main p i (n + 1) T.parts
local_ties main (Seq' a p b q) i n T =
    local_ties main p i (n + 1) T.parts.first ++ local_ties main q i (n + 1 + statements p) T.parts.second
local_ties main (Loop' a p) i n T = local_ties main p (inside_loop main i) (n + 1) T.parts.first
    ++ of_again main [] (local_ties false p 1 (n + 1)) T.parts.second
local_ties main (Par' a p b q) i n T =
    local_ties main p i (n + 1) T.parts.first ++ local_ties main q i (n + 1 + statements p) T.parts.second
local_ties main (Trap' a p) i n T = local_ties main p i (n + 1) T.parts
local_ties main (Binder' m a p) i n T =
    cond (is_unknown T.parts.status) (ties (inner m.index) (declared i n) main p i (n + 1) T.parts.body) []
    ++ local_ties main p i (n + 1) T.parts.body

-- the sheet of a statement at a place
abbrev pub sheet_at : List Status → (p : Statement) → (at : IncarnationPlace) → Sheet at.main p
sheet_at cells p at = sheet_in (cell_at cells) at.main p at.cell at.traps

-- the same of a statement at a place, by the list of cells
abbrev pub ties_at : Wanted → (p : Statement) → IncarnationPlace → List Status → List Tie
ties_at w p at cells = ties (name_of w.name) w.signal at.main p at.at.number at.at.statement (sheet_at cells p at)

abbrev pub local_ties_at : (p : Statement) → IncarnationPlace → List Status → List Tie
local_ties_at p at cells = local_ties at.main p at.at.number at.at.statement (sheet_at cells p at)

-- what is tied to the local signal of number m, that is declared there, if its status is open: p is its scope
abbrev pub own_ties : (m : ℕ) → Incarnation → Status → (p : Statement) → IncarnationPlace → List Status → List Tie
own_ties m declared status p at cells = cond (is_unknown status)
    (ties (inner m) (of_signal.Local declared) at.main p at.at.number at.at.statement (sheet_at cells p at)) []

-- these ties of a statement at a place are added, and what follows it; there are more cells than statements
pub record Adds (p : Statement) (at : IncarnationPlace) (added : List Tie) (old new : List Tie)
    (after : NextPlace) : Type 0 where
  pub tied : new ≡ old ++ added
  pub statement : after.statement ≡ at.at.statement + statements p
  pub cell : after.cell ≡ at.cell + sheet_size at.main p at.traps
  pub numbers : after.statement ≤ after.cell
  pub later : at.cell + 3 ≤ after.cell

-- what is tied to a signal is added; what is tied to local signals is
abbrev pub AreTied : Wanted → (p : Statement) → IncarnationPlace → List Status → (old new : List Tie) → NextPlace
    → Type 0
AreTied w p at cells old new after = Adds p at (ties_at w p at cells) old new after

abbrev pub AreTiedLocals : (p : Statement) → IncarnationPlace → List Status → (old new : List Tie) → NextPlace → Type 0
AreTiedLocals p at cells old new after = Adds p at (local_ties_at p at cells) old new after

-- the place of a second part, which follows a first one
abbrev pub after_part : (p : Statement) → IncarnationPlace → IncarnationPlace
after_part p at = record {
  at = incarnation at.at.number (at.at.statement + statements p);
  cell = at.cell + sheet_size at.main p at.traps;
  main = at.main;
  traps = at.traps;
}

-- two parts of which the first stands at a place: their ties are added
pub record AddsBoth (p q : Statement) (at : IncarnationPlace) (added : List Tie) (old new : List Tie)
    (both : TwoPlaces) : Type 0 where
  pub tied : new ≡ old ++ added
  pub second : both.second ≡ at.cell + sheet_size at.main p at.traps
  pub statement : both.after.statement ≡ at.at.statement + statements p + statements q
  pub cell : both.after.cell ≡ at.cell + sheet_size at.main p at.traps + sheet_size at.main q at.traps
  pub numbers : both.after.statement ≤ both.after.cell
  pub later : both.second + 3 ≤ both.after.cell
  pub first : at.cell + 3 ≤ both.second

abbrev pub AreTiedBoth : Wanted → (p q : Statement) → IncarnationPlace → List Status → (old new : List Tie) → TwoPlaces
    → Type 0
AreTiedBoth w p q at cells old new both =
    AddsBoth p q at (ties_at w p at cells ++ ties_at w q (after_part p at) cells) old new both

abbrev pub AreTiedLocalsBoth : (p q : Statement) → IncarnationPlace → List Status → (old new : List Tie) → TwoPlaces
    → Type 0
AreTiedLocalsBoth p q at cells old new both =
    AddsBoth p q at (local_ties_at p at cells ++ local_ties_at q (after_part p at) cells) old new both

-- the place of a loop's body as the restart begins it, which follows the body
abbrev pub again_at : (p : Statement) → IncarnationPlace → IncarnationPlace
again_at p at = record {
  at = incarnation 1 at.at.statement;
  cell = at.cell + sheet_size at.main p at.traps;
  main = false;
  traps = at.traps;
}

-- a loop's body that can go on, and the body as the restart begins it: their ties are added
pub record AddsAgain (p : Statement) (at : IncarnationPlace) (added : List Tie) (old new : List Tie)
    (after : NextPlace) : Type 0 where
  pub tied : new ≡ old ++ added
  pub statement : after.statement ≡ at.at.statement + statements p
  pub cell : after.cell ≡ at.cell + sheet_size at.main p at.traps + sheet_size false p at.traps
  pub numbers : after.statement ≤ after.cell
  pub later : at.cell + 3 ≤ after.cell

abbrev pub AreTiedAgain : Wanted → (p : Statement) → IncarnationPlace → List Status → (old new : List Tie) → NextPlace
    → Type 0
AreTiedAgain w p at cells old new after =
    AddsAgain p at (ties_at w p at cells ++ ties_at w p (again_at p at) cells) old new after

abbrev pub AreTiedLocalsAgain : (p : Statement) → IncarnationPlace → List Status → (old new : List Tie) → NextPlace
    → Type 0
AreTiedLocalsAgain p at cells old new after =
    AddsAgain p at (local_ties_at p at cells ++ local_ties_at p (again_at p at) cells) old new after
