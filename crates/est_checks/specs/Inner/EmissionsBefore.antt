-- What the first modules of an order emit (this project's own form).
use Rattle.std.specs.Prelude.{◌≡◌, ℕ, ◌<◌, Bool, true, List, slice_index, Some}
use Rattle.std.specs.List.{slice_get}
use Rattle.est_checks.specs.Emissions.{IsEmitted}
use Rattle.est_modules.specs.Modules.{Program}

-- a module of this name stands among the first n of an order
pub record StandsBefore (ps : List Program) (order : List ℕ) (n : ℕ) (m : List ℕ) : Type 0 where
  pub place : ℕ
  pub before : place < n
  pub program : Program
  pub there : slice_get ps (slice_index order place) ≡ Some program
  pub named : program.name ≡ m

-- what the first n modules of an order emit, and no other module emits anything
pub record AreEmissionsBefore (ps : List Program) (order : List ℕ) (n : ℕ)
    (emitted : List ℕ → List ℕ → Bool) : Type 0 where
  pub each : (i : ℕ) → i < n → (p : Program) → slice_get ps (slice_index order i) ≡ Some p → IsEmitted ps emitted p
  pub only : (m s : List ℕ) → emitted m s ≡ true → StandsBefore ps order n m
