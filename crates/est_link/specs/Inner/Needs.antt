-- Sets of places of modules, as rows that have for each place whether it is in the set (this project's own form).
use Rattle.std.specs.Prelude.{ℕ, ◌<◌, ◌≤◌, Bool, true, List, length, slice_index}
use Rattle.std.specs.Prelude.{slice_set, nat_lt, if◌then◌else◌, fold}
use Rattle.est_modules.specs.Modules.{Program}
use Rattle.est_modules.specs.ModuleOrders.{run_rows}
use Rattle.est_order.specs.PlaceSets.{IsIn}
use Rattle.est_order.specs.RunRows.{IsRun}

-- the set with one place more, if it is a place of the row
abbrev pub with_place : List Bool → ℕ → List Bool
with_place set place = if nat_lt place (length set) then slice_set set place true else set

-- the set with these places
abbrev pub with_places : List Bool → List ℕ → List Bool
with_places set places = fold with_place set places

-- the set has, with each module, those that it runs
abbrev pub IsComplete : List Program → List Bool → Type 0
IsComplete ps set = (runner run : ℕ) → IsIn set runner → IsRun (run_rows ps) runner run → IsIn set run

-- the set has, with each module from this place in an order on, those that it runs
abbrev pub IsCompleteFrom : List Program → (order : List ℕ) → ℕ → List Bool → Type 0
IsCompleteFrom ps order n set = (i : ℕ) → n ≤ i → i < length order → IsIn set (slice_index order i) → (run : ℕ)
    → IsRun (run_rows ps) (slice_index order i) run → IsIn set run
