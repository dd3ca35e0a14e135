-- Sets of places, as a list that has for each place whether it is in the set (this project's own form).
use Rattle.std.specs.Prelude.{◌≡◌, ℕ, Bool, true, false, List, slice_index_or}

-- the place is in the set
abbrev pub IsIn : List Bool → ℕ → Type 0
IsIn set place = slice_index_or set place false ≡ true
