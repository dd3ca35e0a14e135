-- At which pauses a statement stands after an instant, by the list of cells (this project's own
-- form).
use Rattle.std.specs.Prelude.{◌≡◌, ◌||◌, ℕ, Bool, List}
use Rattle.est_kernel.specs.Pauses.{pauses_of}
use Rattle.est_kernel.specs.declared.pause_set.PauseSet.{PauseSet}
use Rattle.est_kernel.specs.declared.statement.Statement.{Statement}
use Rattle.est_meaning.specs.declared.status.Status.{Status}
use Rattle.est_cells.specs.Next.{stays, stays_in}
use Rattle.est_net.specs.Cells.{cell_at}
use Rattle.est_net.specs.Layout.{parts_in, sheet_in}

-- the pauses at which the statement stands, whose cells begin at place c, are put in
abbrev pub Collects : (s : Statement) (main : Bool) (c traps : ℕ) → List Status → (pauses old new : PauseSet) → Type 0
Collects s main c traps cells pauses old new = (i : ℕ) → pauses_of new i
    ≡ (pauses_of old i || stays main s (pauses_of pauses) (sheet_in (cell_at cells) main s c traps) i)

-- so are those of a statement that gives code 1
pub record CollectsIn (s : Statement) (main : Bool) (c traps : ℕ) (cells : List Status) (pauses old new : PauseSet)
    : Type 0 where
  pub put_in : (i : ℕ) → pauses_of new i
      ≡ (pauses_of old i || stays_in main s (pauses_of pauses) (parts_in (cell_at cells) main s c traps) i)
