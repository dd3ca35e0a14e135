-- The sides of a `||`, those of a `||` that is its second side among them (this project's own form).
use Rattle.std.specs.Prelude.{◌≡◌, ◌<◌, ◌≤◌, ◌+◌, ℕ, Bool, true, false, List, IfSome, slice_get}
use Rattle.est_kernel.specs.Limits.{trap_depth}
use Rattle.est_kernel.specs.Masks.{FitsMasks}
use Rattle.est_kernel.specs.View.{term_of}
use Rattle.est_kernel.specs.declared.statement.Statement.{Statement}
use Rattle.est_meaning.specs.Environments.{Env}
use Rattle.est_meaning.specs.Knowledge.{IsIn}
use Rattle.est_meaning.specs.States.{is_live}
use Rattle.est_meaning.specs.declared.status.Status.{Status}
use Rattle.est_meaning.specs.declared.status.Status.TheVariants.{Absent}
use Rattle.est_cells.specs.Meaning.{begun, resumed}
use Rattle.est_cells.specs.Tables.{Below, Sheet, emits, is_sure, sheet_size}
use Rattle.est_net.specs.Cells.{cell_at}
use Rattle.est_net.specs.Extents.{HasExtents}
use Rattle.est_net.specs.Layout.{sheet_in}
use Rattle.est_net.specs.Owners.{statements}
use Rattle.est_net.specs.declared.extents.Extent.{Extent}
use Rattle.est_micro.specs.Inner.Views.{Changes}
use Rattle.est_micro.specs.declared.cells.StatementPlace.{StatementPlace}
use Rattle.est_micro.specs.declared.sides.Side.{Side}

-- The sheet N of p, whose cells begin at d inside u traps, lies in the sheet M of s, whose cells begin at c inside t
-- traps. Where the cells of s fall short of M, those of p fall short of N; and where then cells of p alone change, and
-- fall short of N, those of s still do
pub record IsWithin (main : Bool) (s : Statement) (c t : ℕ) (M : Sheet main s) (own : Bool) (p : Statement) (d u : ℕ)
    (N : Sheet own p) : Type 0 where
  pub from : c ≤ d
  pub within : d + sheet_size own p u ≤ c + sheet_size main s t
  pub part : (f : ℕ → Status) → Below main s (sheet_in f main s c t) M → Below own p (sheet_in f own p d u) N
  pub whole : (old new : List Status) → Changes d (d + sheet_size own p u) old new
      → Below main s (sheet_in (cell_at old) main s c t) M → Below own p (sheet_in (cell_at new) own p d u) N
      → Below main s (sheet_in (cell_at new) main s c t) M

-- it lies in it, and what N surely emits, M does: no binder of a local signal stands between them
pub record IsPart (main : Bool) (s : Statement) (c t : ℕ) (M : Sheet main s) (own : Bool) (p : Statement) (d u : ℕ)
    (N : Sheet own p) : Type 0 where
  pub lies : IsWithin main s c t M own p d u N
  pub emits : IsIn (emits is_sure own p N) (emits is_sure main s M)

-- p, whose cells begin at d, is a side of s, whose cells begin at c, both inside t traps. Where s goes on from its
-- pauses, if it is run, as r tells, so does p, if one of its pauses is set; else p is not begun
pub record IsSideOn (bits : ℕ → Bool) (s : Statement) (c : ℕ) (p : Statement) (d t : ℕ) : Type 0 where
  pub part : (r : Status) (e : Env) → is_live p bits ≡ true
      → IsPart true s c t (resumed s bits r e) true p d t (resumed p bits r e)
  pub over : (r : Status) (e : Env) → is_live p bits ≡ false
      → IsPart true s c t (resumed s bits r e) true p d t (begun true p Absent e)

-- p, of this number, whose cells begin at d, is a side of the statement s at this place, and has what a sweep asks of a
-- statement. Where s is begun, if at all, as r tells, so is p
pub record IsSideOf (xs : List Extent) (at : StatementPlace) (s p : Statement) (number d : ℕ) : Type 0 where
  pub smaller : statements p < statements s
  pub fits : FitsMasks p
  pub extents : HasExtents xs number at.traps p
  pub traps : at.traps + trap_depth (term_of p) ≤ 62
  pub from : at.cell ≤ d
  pub within : d + sheet_size at.main p at.traps ≤ at.cell + sheet_size at.main s at.traps
  pub begun : (r : Status) (e : Env)
      → IsPart at.main s at.cell at.traps (begun at.main s r e) at.main p d at.traps (begun at.main p r e)
  pub on : (bits : ℕ → Bool) → at.main ≡ true → IsSideOn bits s at.cell p d at.traps

-- a side of the statement s at this place
abbrev pub IsOneOf : List Extent → StatementPlace → Statement → Side → Type 0
IsOneOf xs at s side = IsSideOf xs at s side.statement.now side.number side.cell

-- so are as many of these
abbrev pub AreSidesOf : List Extent → StatementPlace → Statement → List Side → ℕ → Type 0
AreSidesOf xs at s list count = (n : ℕ) → n < count → IfSome (slice_get list n) (IsOneOf xs at s)
