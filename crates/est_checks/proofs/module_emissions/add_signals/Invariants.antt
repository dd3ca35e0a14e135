use Rattle.std.proofs.Common.{◌≡◌, ◌||◌, ◌&&◌, ℕ, List, take}
use Rattle.est_modules.specs.Modules.{is_declared}
use Rattle.est_modules.specs.NameSets.{has}
use Rattle.est_modules.specs.NameTables.{number_in}
use Rattle.est_checks.specs.Inner.Noted.{is_noted}
use Rattle.est_checks.proofs.module_emissions.add_signals.Given as goal

abbrev pub invariant-loop-declared : goal.invariant-loop-declared
invariant-loop-declared l = (s : List ℕ) → has l.set s
    ≡ (has l.fn.set s
    || (is_noted l.noted (number_in l.names s) && is_declared (take l.declared-index l.interface) s))
