-- First places of names in lists (this project's own form).
use Rattle.std.specs.Prelude.{◌≡◌, ℕ, List, Option}
use Rattle.std.specs.Borrow.{Bor}
use Rattle.std.specs.BTreeMap.{get_by}
use Rattle.std.specs.Cmp.Lexicographic.{slice_cmp}
use Rattle.std.specs.List.{position}
use Rattle.std.specs.Ordering.{nat_cmp}
use Rattle.std.specs.Str.{bytes_eq}
use Rattle.est_modules.specs.declared.names.table.FirstPlaces.{FirstPlaces}

-- the place that is kept for a name
abbrev pub first_place : FirstPlaces → List ℕ → Option ℕ
first_place t s = get_by (λ (k : Bor (List ℕ)). slice_cmp nat_cmp s k.now) t.places

-- what is kept for each name is its first place in the list
abbrev pub AreFirstPlaces : FirstPlaces → List (List ℕ) → Type 0
AreFirstPlaces t names = (s : List ℕ) → first_place t s ≡ position (λ n. bytes_eq n s) names
