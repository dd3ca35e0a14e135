use Rattle.std.proofs.Common.{◌≡◌, ◌||◌, not, map, take, filter}
use Rattle.est_modules.specs.NameSets.{has}
use Rattle.est_modules.specs.Visible.{is_tick}
use Rattle.est_modules.specs.declared.interface.Declared.{Declared}
use Rattle.est_checks.proofs.allowed_names.other_names.Given as goal

abbrev pub invariant-loop-declared : goal.invariant-loop-declared
invariant-loop-declared l = l.others.items ≡ filter (λ n. not (has l.inputs n || is_tick n))
    (map (λ (d : Declared). d.name) (take l.declared-index l.interface))
