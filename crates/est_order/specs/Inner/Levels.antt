-- Levels of modules, as a list that has a number for each place.
use Rattle.std.specs.Prelude.{ℕ, ◌<◌, ◌||◌, Bool, IsTrue, List, [], length, slice_index, slice_index_or, nat_lt, nat_le}
use Rattle.std.specs.List.{list_all}

-- whether the module runs none of a higher level
unfoldable pub runs_no_higher : List (List ℕ) → List ℕ → ℕ → Bool
runs_no_higher rows levels place =
    list_all (λ run. nat_le (length rows) run || nat_le (slice_index levels run) (slice_index levels place))
    (slice_index_or rows place [])

-- whether the module runs those of lower levels alone
unfoldable pub runs_lower : List (List ℕ) → List ℕ → ℕ → Bool
runs_lower rows levels place =
    list_all (λ run. nat_le (length rows) run || nat_lt (slice_index levels run) (slice_index levels place))
    (slice_index_or rows place [])

-- no module runs one of a higher level
abbrev pub NoneClimbs : List (List ℕ) → List ℕ → Type 0
NoneClimbs rows levels = (place : ℕ) → place < length rows → IsTrue (runs_no_higher rows levels place)

-- each module runs those of lower levels alone
abbrev pub AllFall : List (List ℕ) → List ℕ → Type 0
AllFall rows levels = (place : ℕ) → place < length rows → IsTrue (runs_lower rows levels place)

-- the module runs one whose level isn't lower, and none before it does
pub record IsFirstNotFalling (rows : List (List ℕ)) (levels : List ℕ) (place : ℕ) : Type 0 where
  pub there : place < length rows
  pub fails : IsTrue (runs_lower rows levels place) → ⊥
  pub before : (before : ℕ) → before < place → IsTrue (runs_lower rows levels before)
