-- What adding the entries of a statement to the list of extents does (this project's own form).
use Rattle.std.specs.Prelude.{◌≡◌, ◌<◌, ◌+◌, ℕ, List, length}
use Rattle.est_kernel.specs.declared.statement.Statement.{Statement}
use Rattle.est_net.specs.Extents.{extent_at, HasExtents, IsExtent, PartsHaveExtents}
use Rattle.est_net.specs.Owners.{statements}
use Rattle.est_net.specs.declared.extents.Extent.{Extent}

-- the entries of a statement inside t traps are added, and this is its own
pub record IsExtended (s : Statement) (t : ℕ) (old new : List Extent) (x : Extent) : Type 0 where
  pub size : length new ≡ length old + statements s
  pub before : (i : ℕ) → i < length old → extent_at new i ≡ extent_at old i
  pub added : HasExtents new (length old) t s
  pub own : IsExtent x s t

-- the entries of its parts are added, after the place of its own, which was the last one so far
pub record ArePartsAdded (s : Statement) (t : ℕ) (old new : List Extent) (x : Extent) : Type 0 where
  pub size : length new + 1 ≡ length old + statements s
  pub before : (i : ℕ) → i < length old → extent_at new i ≡ extent_at old i
  pub added : (n : ℕ) → length old ≡ n + 1 → PartsHaveExtents new n t s
  pub own : IsExtent x s t
