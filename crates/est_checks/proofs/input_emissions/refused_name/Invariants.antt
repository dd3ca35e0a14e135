use Rattle.std.proofs.Common.{◌≡◌, drop, map}
use Rattle.std.specs.List.{find}
use Rattle.est_syntax.specs.Views.{renaming_view}
use Rattle.est_modules.specs.Modules.{program_of}
use Rattle.est_modules.specs.Scopes.{binders_of}
use Rattle.est_modules.specs.declared.interface.Declared.{Declared}
use Rattle.est_checks.specs.Emissions.{emitted_of, is_refused_in_run}
use Rattle.est_checks.proofs.input_emissions.refused_name.Given as goal

abbrev pub invariant-loop-declared : goal.invariant-loop-declared
invariant-loop-declared l =
    let first = find (λ (d : Declared). is_refused_in_run (emitted_of l.check.table.now) (program_of l.check.home.now)
    (binders_of l.scope) (map renaming_view l.renamings) l.name d.name) in
    first l.run.interface ≡ first (drop l.declared-index l.interface)
