use Rattle.std.proofs.Common.{◌≡◌, ℕ, List, take}
use Rattle.est_modules.specs.Modules.{is_input}
use Rattle.est_modules.specs.NameSets.{has}
use Rattle.est_checks.proofs.allowed_names.inputs_of.Given as goal

abbrev pub invariant-loop-declared : goal.invariant-loop-declared
invariant-loop-declared l = (s : List ℕ) → has l.names s ≡ is_input (take l.declared-index l.interface) s
