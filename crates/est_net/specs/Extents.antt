-- What is known of each statement before any instant: a list with an entry for each, in the order of the text, a
-- statement before its parts (this project's own form).
use Rattle.std.specs.Prelude.{◌≡◌, ◌<◌, ◌≤◌, ◌+◌, ℕ, Bool, true, false, List, None, get_or, length, IfSome}
use Rattle.est_kernel.specs.Pauses.{some_from}
use Rattle.est_kernel.specs.declared.statement.Statement.{Statement}
use Rattle.est_kernel.specs.declared.statement.Statement.TheVariants.{Nothing, Pause, Emit, Present', Suspend', Seq'}
use Rattle.est_kernel.specs.declared.statement.Statement.TheVariants.{Loop', Par', Trap', Exit, Local' as Binder'}
use Rattle.est_meaning.specs.States.{is_live}
use Rattle.est_cells.specs.Tables.{sheet_size}
use Rattle.est_net.specs.Owners.{statements}
use Rattle.est_net.specs.declared.extents.Extent.{Extent}
use Rattle.est_net.specs.declared.pause_run.PauseRun.{PauseRun}

-- in each set of pauses, f holds exactly where the set has a pause of the run
abbrev pub IsRunOf : ((ℕ → Bool) → Bool) → PauseRun → Type 0
IsRunOf f r = (set : ℕ → Bool) → f set ≡ some_from set r.first r.count

-- what is known of a statement inside t traps: its cells where it can go on from its pauses, and in a restart; how many
-- statements it has, itself counted; and its pauses, where their numbers are a run
pub record IsExtent (x : Extent) (s : Statement) (t : ℕ) : Type 0 where
  pub main : x.main ≡ sheet_size true s t
  pub again : x.again ≡ sheet_size false s t
  pub statements : x.statements ≡ statements s
  pub pauses : IfSome x.pauses (IsRunOf (is_live s))

-- the entry at a number; after the last one there is none that says anything
abbrev pub extent_at : List Extent → ℕ → Extent
extent_at xs n = get_or xs n (record {
  main = 0;
  again = 0;
  statements = 0;
  pauses = None;
  reads = record { interface = 0; local = 0 };
  emits = record { interface = 0; local = 0 };
  tells = false;
})

-- the entry at this number is of this statement
pub record HasExtent (xs : List Extent) (n t : ℕ) (s : Statement) : Type 0 where
  pub within : n < length xs
  pub room : n + statements s ≤ length xs
  pub is : IsExtent (extent_at xs n) s t

-- so it is, and P says it of its parts
pub record HasAll (xs : List Extent) (n t : ℕ) (s : Statement) (P : Type 0) : Type 0 where
  pub here : HasExtent xs n t s
  pub parts : P

-- the entries of the parts of the statement of number n
abbrev pub PartsHaveExtents : List Extent → (n t : ℕ) → Statement → Type 0
PartsHaveExtents xs n t Nothing = Unit {0}
PartsHaveExtents xs n t (Pause i) = Unit {0}
PartsHaveExtents xs n t (Emit s) = Unit {0}
PartsHaveExtents xs n t (Exit k) = Unit {0}
PartsHaveExtents xs n t (Present' x a p b q) =
    HasAll xs (n + 1) t p (PartsHaveExtents xs (n + 1) t p)
    × HasAll xs (n + 1 + statements p) t q (PartsHaveExtents xs (n + 1 + statements p) t q)
PartsHaveExtents xs n t (Suspend' x a p) = HasAll xs (n + 1) t p (PartsHaveExtents xs (n + 1) t p)
PartsHaveExtents xs n t (Seq' a p b q) =
    HasAll xs (n + 1) t p (PartsHaveExtents xs (n + 1) t p)
    × HasAll xs (n + 1 + statements p) t q (PartsHaveExtents xs (n + 1 + statements p) t q)
PartsHaveExtents xs n t (Loop' a p) = HasAll xs (n + 1) t p (PartsHaveExtents xs (n + 1) t p)
PartsHaveExtents xs n t (Par' a p b q) =
    HasAll xs (n + 1) t p (PartsHaveExtents xs (n + 1) t p)
    × HasAll xs (n + 1 + statements p) t q (PartsHaveExtents xs (n + 1 + statements p) t q)
PartsHaveExtents xs n t (Trap' a p) = HasAll xs (n + 1) (t + 1) p (PartsHaveExtents xs (n + 1) (t + 1) p)
PartsHaveExtents xs n t (Binder' s a p) = HasAll xs (n + 1) t p (PartsHaveExtents xs (n + 1) t p)

-- the statement of number n, inside t traps, and its parts have their entries
abbrev pub HasExtents : List Extent → (n t : ℕ) → Statement → Type 0
HasExtents xs n t s = HasAll xs n t s (PartsHaveExtents xs n t s)
