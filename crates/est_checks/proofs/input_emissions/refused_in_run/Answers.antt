use Rattle.std.proofs.Common.{◌≡◌, IfOk, map, sym, subst}
use Rattle.est_syntax.specs.Views.{renaming_view}
use Rattle.est_modules.specs.Modules.{program_of}
use Rattle.est_modules.specs.Scopes.{binders_of}
use Rattle.est_checks.specs.Emissions.{emitted_of, refused_in_run}
use Rattle.est_checks.proofs.input_emissions.refused_in_run.Goals as goal

pub returns-in-Some : goal.returns-in-Some
returns-in-Some c =
    subst
    (λ q. IfOk c.refused_of.result (λ found. found ≡ refused_in_run (emitted_of c.args.check.now.table.now)
    (program_of c.args.check.now.home.now) (binders_of c.args.scope.now) (map renaming_view c.args.renamings.now)
    c.args.name.now q)) c.in-Some.ensures c.refused_of.ensures

pub refused_of-requires-clause-named : goal.refused_of-requires-clause-named
refused_of-requires-clause-named c = sym c.in-Some.ensures
