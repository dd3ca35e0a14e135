-- The numbers of what modules emit of the signals of their interfaces (this project's own form).
use Rattle.std.specs.Prelude.{◌≡◌, ◌&&◌, ℕ, List, Bool, false, Option, Some, None}
use Rattle.std.specs.Borrow.{Bor}
use Rattle.std.specs.BTreeMap.{get_by}
use Rattle.std.specs.Cmp.Lexicographic.{slice_cmp}
use Rattle.std.specs.Ordering.{nat_cmp}
use Rattle.est_modules.specs.Modules.{Program, program_named, is_declared}
use Rattle.est_modules.specs.NamedNumbers.{is_number_of}
use Rattle.est_modules.specs.NumberSets.{numbers_of}
use Rattle.est_modules.specs.declared.names.table.NameTable.{NameTable}
use Rattle.est_modules.specs.declared.names.set.NumberSet.{NumberSet}
use Rattle.est_checks.specs.declared.emitted_numbers.EmittedNumbers.{EmittedNumbers}

-- a set that was found has the number
abbrev pub has_number : Option NumberSet → ℕ → Bool
has_number None i = false
has_number (Some set) i = numbers_of set i

-- the module of a name has the number
abbrev pub emits_number : EmittedNumbers → List ℕ → ℕ → Bool
emits_number n m i = has_number (get_by (λ (k : Bor (List ℕ)). slice_cmp nat_cmp m k.now) n.modules) i

-- each module has the numbers of the interface names that it emits
abbrev pub AreEmittedNumbers : NameTable → List Program → (List ℕ → List ℕ → Bool) → EmittedNumbers → Type 0
AreEmittedNumbers t ps emitted n = (m : List ℕ) (q : Program) → program_named ps m ≡ Some q → (i : ℕ)
    → emits_number n m i ≡ is_number_of t (λ s. emitted m s && is_declared q.interface s) i
