-- How many statements a linked module has before reduction, worked out before any `run` is replaced
-- (this project's own form).
use Rattle.std.specs.Prelude.{◌≡◌, ℕ, ◌+◌, ◌<◌, ◌≤◌, List, Option, Some, None}
use Rattle.est_modules.specs.Derived.{Derived, missing, nothing, pause, halt, emit, sustain, exit, await, present}
use Rattle.est_modules.specs.Derived.{suspend, abort, weak_abort, repeat, repeat_each, every, trap, signal, run, seq}
use Rattle.est_modules.specs.Derived.{par}
use Rattle.est_modules.specs.Modules.{Program, program_named}
use Rattle.est_modules.specs.Tests.{test_words}
use Rattle.est_kernel.specs.declared.limits.TheConstants.{MOST_STATEMENTS}

-- the statements of a body, where each module m has (counts m) of them: each `;` between units and each `||` is
-- one, and so is each `not`, `and` and `or` of a test; a branch that is left out has none, and a run has those of its
-- module
abbrev pub counted : (List ℕ → ℕ) → Derived → ℕ
counted counts missing = 0
counted counts nothing = 1
counted counts pause = 1
counted counts halt = 1
counted counts (emit s) = 1
counted counts (sustain s) = 1
counted counts (exit t) = 1
counted counts (await d) = test_words d.test + 1
counted counts (present t p q) = test_words t + counted counts p + counted counts q + 1
counted counts (suspend p d) = test_words d.test + counted counts p + 1
counted counts (abort p d) = test_words d.test + counted counts p + 1
counted counts (weak_abort p d) = test_words d.test + counted counts p + 1
counted counts (repeat p) = counted counts p + 1
counted counts (repeat_each p t) = test_words t + counted counts p + 1
counted counts (every d p) = test_words d.test + counted counts p + 1
counted counts (trap t p) = counted counts p + 1
counted counts (signal ns p) = counted counts p + 1
counted counts (run m rs) = counts m
counted counts (seq p q) = counted counts p + counted counts q + 1
counted counts (par p q) = counted counts p + counted counts q + 1

-- each module's number is that of its body
abbrev pub AreCounts : List Program → (List ℕ → ℕ) → Type 0
AreCounts ps counts =
    (m : List ℕ) (p : Program) → program_named ps m ≡ Some p → counts m ≡ counted counts p.body

-- a module's number of statements is this one if it is within the limit, and none is answered if it is not
abbrev pub IsWithinLimit : ℕ → Option ℕ → Type 0
IsWithinLimit whole None = MOST_STATEMENTS < whole
IsWithinLimit whole (Some number) = (number ≡ whole) × (whole ≤ MOST_STATEMENTS)

-- the answer is by the numbers of statements that the modules have
pub record IsCountOf (ps : List Program) (main : List ℕ) (answer : Option ℕ) : Type 0 where
  pub counts : List ℕ → ℕ
  pub are : AreCounts ps counts
  pub within : IsWithinLimit (counts main) answer
