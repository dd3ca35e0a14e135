-- Numbers of statements that a table of the code has, none past the limit plus one (this project's own form).
use Rattle.std.specs.Prelude.{◌≡◌, ℕ, List, length, map, min, Option, Some, None, slice_get, slice_index}
use Rattle.est_modules.specs.Modules.{Program, program_of}
use Rattle.est_checks.specs.Counting.{counted}
use Rattle.est_modules.specs.ModuleOrders.{place_named}
use Rattle.est_checks.specs.declared.statement_count.Numbers.{Numbers}
use Rattle.est_checks.specs.declared.statement_count.TheConstants.{TOO_MANY}

-- the number at a place; without one, 0
abbrev pub number_found : List ℕ → Option ℕ → ℕ
number_found table None = 0
number_found table (Some place) = slice_index table place

-- the number that the table has for a name: each stands at the place of its module
abbrev pub number_of : List Program → List ℕ → List ℕ → ℕ
number_of ps table m = number_found table (place_named ps m)

-- the same of the table of the code
abbrev pub numbers_of : Numbers → List ℕ → ℕ
numbers_of n m = number_of (map program_of n.modules.now) n.numbers.now m

-- the table has the cut of whole numbers, and those of the modules at the first places of the order are right
pub record IsFilled (ps : List Program) (order : List ℕ) (table : List ℕ) : Type 0 where
  pub whole : List ℕ
  pub each : length whole ≡ length ps
  pub cut : table ≡ map (min TOO_MANY) whole
  pub right : (i place : ℕ) (p : Program) → slice_get order i ≡ Some place → slice_get ps place ≡ Some p
      → slice_index whole place ≡ counted (number_of ps whole) p.body
