use Rattle.std.proofs.Common.{◌≡◌, map, take}
use Rattle.est_modules.specs.declared.interface.Declared.{Declared}
use Rattle.est_checks.proofs.declared_names.declared_names.Given as goal

abbrev pub invariant-loop-declared : goal.invariant-loop-declared
invariant-loop-declared l = l.names.items ≡ map (λ (d : Declared). d.name) (take l.declared-index l.interface)
