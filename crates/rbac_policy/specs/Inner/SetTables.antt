-- What is read from the table of separation sets, as it is computed (this project's own form).
use Rattle.std.specs.Prelude.{ℕ, Bool, false, List, Option, Some, None, fold, if◌then◌else◌, ◌==◌}
use Rattle.std.specs.Int.{bit_at}
use Rattle.std.specs.Str.{bytes_eq}
use Rattle.rbac_policy.specs.declared.rows.DsdSet.{DsdSet}
use Rattle.rbac_policy.specs.Names.{NameText}
use Rattle.rbac_policy.specs.Inner.Violations.{lesser}

-- the row has this separation set
abbrev pub set_is : NameText → Option DsdSet → Bool
set_is name None = false
set_is name (Some row) = bytes_eq row.name name

-- the separation set of the row, if the role at this place is a member
abbrev pub set_with : ℕ → Option DsdSet → Option DsdSet
set_with place None = None
set_with place (Some row) = if bit_at row.roles place == 1 then Some row else None

-- the place of the entry that made the set
abbrev pub place_of_row : DsdSet → ℕ
place_of_row row = row.place

-- the first separation set, in order of creation, of which the role at this place is a member
unfoldable pub first_set_with : ℕ → List (Option DsdSet) → Option DsdSet
first_set_with place sets = fold (λ first row. lesser place_of_row first (set_with place row)) None sets
