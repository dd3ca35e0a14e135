use Rattle.std.proofs.Common.{map, option_map, ap, sym, ◌∙◌}
use Rattle.std.proofs.lemmas.List.{at_drop_all}
use Rattle.std.specs.List.{find}
use Rattle.est_syntax.specs.Views.{renaming_view}
use Rattle.est_modules.specs.Modules.{program_of}
use Rattle.est_modules.specs.Renamings.{renamed}
use Rattle.est_modules.specs.Scopes.{binders_of}
use Rattle.est_modules.specs.declared.interface.Declared.{Declared}
use Rattle.est_checks.specs.Emissions.{emitted_of, is_refused_in_run}
use Rattle.est_checks.proofs.Emitting.{signal_found}
use Rattle.est_checks.proofs.Looping.{found_next, found_later}
use Rattle.est_checks.proofs.input_emissions.refused_name.Goals as goal

pub returns-then-is_refused_in_run : goal.returns-then-is_refused_in_run
returns-then-is_refused_in_run c =
    let em = emitted_of c.args.check.now.table.now in
    let p = program_of c.args.check.now.home.now in
    let bs = binders_of c.args.scope.now in
    let rs = map renaming_view c.args.renamings.now in
    let m = c.args.name.now in
    let d = c.declared-item.result in
    signal_found em p bs rs m (program_of c.args.run.now) d
    (sym (c.loop-declared.invariant
    ∙ found_next (λ (d : Declared). is_refused_in_run em p bs rs m d.name) c.signals-interface.result.now
    c.loop-declared.declared-index d c.loop-declared-test.true c.declared-item.is
    (sym c.is_refused_in_run.ensures ∙ c.if-is_refused_in_run.true)))
    c.callers_name.ensures

pub loop-declared-preserved : goal.loop-declared-preserved
loop-declared-preserved c =
    let em = emitted_of c.args.check.now.table.now in
    let p = program_of c.args.check.now.home.now in
    let bs = binders_of c.args.scope.now in
    let rs = map renaming_view c.args.renamings.now in
    let m = c.args.name.now in
    c.loop-declared.invariant
    ∙ found_later (λ (d : Declared). is_refused_in_run em p bs rs m d.name) c.signals-interface.result.now
    c.loop-declared.declared-index c.declared-item.result c.loop-declared-test.true c.declared-item.is
    (sym c.is_refused_in_run.ensures ∙ c.if-is_refused_in_run.false)

pub returns : goal.returns
returns c =
    let em = emitted_of c.args.check.now.table.now in
    let p = program_of c.args.check.now.home.now in
    let bs = binders_of c.args.scope.now in
    let rs = map renaming_view c.args.renamings.now in
    let m = c.args.name.now in
    sym (ap (option_map (λ (d : Declared). renamed rs d.name)) (c.loop-declared.invariant
    ∙ at_drop_all (find (λ (d : Declared). is_refused_in_run em p bs rs m d.name)) c.signals-interface.result.now
    c.loop-declared.declared-index c.loop-declared-test.false))
