use Rattle.std.proofs.Common.{◌≡◌, map, take, filter}
use Rattle.est_modules.specs.NameSets.{has}
use Rattle.est_modules.specs.declared.interface.Declared.{Declared}
use Rattle.est_checks.proofs.run_emissions.names_in.Given as goal

abbrev pub invariant-loop-declared : goal.invariant-loop-declared
invariant-loop-declared l = l.names.items ≡ filter (has l.set)
    (map (λ (d : Declared). d.name) (take l.declared-index l.interface))
