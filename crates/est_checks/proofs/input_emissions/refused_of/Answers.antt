use Rattle.std.proofs.Common.{◌∙◌, map, ap}
use Rattle.est_syntax.specs.Views.{renaming_view}
use Rattle.est_modules.specs.Modules.{program_of}
use Rattle.est_modules.specs.Scopes.{binders_of}
use Rattle.est_modules.specs.Visible.{stands_in}
use Rattle.est_checks.specs.Emissions.{emitted_of}
use Rattle.est_checks.specs.Inner.Emitted.{names_emitted_in}
use Rattle.est_checks.proofs.Barring.{run_allowed}
use Rattle.est_checks.proofs.input_emissions.refused_of.Goals as goal

pub returns-then-allowed : goal.returns-then-allowed
returns-then-allowed c =
    let em = emitted_of c.args.check.now.table.now in
    let p = program_of c.args.check.now.home.now in
    let bs = binders_of c.args.scope.now in
    let rs = map renaming_view c.args.renamings.now in
    let m = c.args.name.now in
    run_allowed em p bs rs m (program_of c.args.run.now)
    (λ s here. c.in_ok-allowed.ensures c.if-allowed.true s
    (ap (λ o. stands_in (names_emitted_in (em m) o) s) c.requires.named ∙ here))
