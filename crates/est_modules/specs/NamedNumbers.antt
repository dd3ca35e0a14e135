-- Sets of numbers that tell something of names (this project's own form).
use Rattle.std.specs.Prelude.{◌≡◌, ℕ, Bool, true, false, ◌||◌, List, Option, Some, None}
use Rattle.std.specs.List.{list_all, slice_get}
use Rattle.est_modules.specs.NameTables.{is_numbered}
use Rattle.est_modules.specs.NumberSets.{numbers_of}
use Rattle.est_modules.specs.Visible.{stands_in}
use Rattle.est_modules.specs.declared.names.table.NameTable.{NameTable}
use Rattle.est_modules.specs.declared.names.set.NumberSet.{NumberSet}

-- there is a name, and it passes the test
abbrev pub passes : (List ℕ → Bool) → Option (List ℕ) → Bool
passes f None = false
passes f (Some n) = f n

-- the number is that of a name that passes the test
abbrev pub is_number_of : NameTable → (List ℕ → Bool) → ℕ → Bool
is_number_of t f i = passes f (slice_get t.names.items i)

-- the numbers of the set are those of the names that pass the test
abbrev pub Tells : NameTable → (List ℕ → Bool) → NumberSet → Type 0
Tells t f set = (i : ℕ) → numbers_of set i ≡ is_number_of t f i

-- these are put into the set
abbrev pub Adds : NameTable → (List ℕ → Bool) → NumberSet → NumberSet → Type 0
Adds t f old new = (i : ℕ) → numbers_of new i ≡ (numbers_of old i || is_number_of t f i)

-- each of the names has a number, and the set has these numbers
pub record AreNumbers (t : NameTable) (names : List (List ℕ)) (set : NumberSet) : Type 0 where
  pub numbered : list_all (is_numbered t) names ≡ true
  pub told : Tells t (stands_in names) set
