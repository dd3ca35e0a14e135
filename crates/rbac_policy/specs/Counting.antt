-- How many values have a property (this project's own form).
use Rattle.std.specs.Prelude.{◌≡◌, ◌≢◌, ℕ, List, length}
use Rattle.std.specs.List.{All, AllPairs}

-- at least this many different values have the property
pub record HasAtLeast {A : Type 0} (count : ℕ) (P : A → Type 0) : Type 0 where
  pub values : List A
  pub distinct : AllPairs (λ x y. x ≢ y) values
  pub have : All P values
  pub enough : length values ≡ count
