use Rattle.std.proofs.Common.{◌≡◌, ◌&&◌, drop}
use Rattle.std.specs.List.{list_any}
use Rattle.est_syntax.specs.declared.tree.Renaming.{Renaming}
use Rattle.est_modules.specs.Modules.{program_of}
use Rattle.est_modules.specs.Scopes.{binders_of}
use Rattle.est_checks.specs.Emissions.{emitted_of, is_refused}
use Rattle.est_checks.proofs.input_emissions.binds_input.Given as goal

abbrev pub invariant-loop-renaming : goal.invariant-loop-renaming
invariant-loop-renaming l =
    let some = list_any (λ (r : Renaming). is_refused (program_of l.check.home.now) (binders_of l.scope) r.outer
    && emitted_of l.check.table.now l.name r.inner) in
    some l.renamings ≡ some (drop l.renaming-index l.renamings)
