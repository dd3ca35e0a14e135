use Rattle.std.proofs.Common.{◌&&◌, true, false, sym, ◌∙◌}
use Rattle.std.proofs.lemmas.List.{at_drop_all}
use Rattle.std.specs.List.{list_any}
use Rattle.est_syntax.specs.declared.tree.Renaming.{Renaming}
use Rattle.est_modules.specs.Modules.{program_of}
use Rattle.est_modules.specs.Scopes.{binders_of}
use Rattle.est_checks.specs.Emissions.{emitted_of, is_refused}
use Rattle.est_checks.proofs.Looping.{any_from}
use Rattle.est_checks.proofs.input_emissions.binds_input.Goals as goal

pub returns-then-is_refused_renaming : goal.returns-then-is_refused_renaming
returns-then-is_refused_renaming c =
    let test = λ (r : Renaming). is_refused (program_of c.args.check.now.home.now) (binders_of c.args.scope.now) r.outer
    && emitted_of c.args.check.now.table.now c.args.name.now r.inner in
    sym (c.loop-renaming.invariant
    ∙ any_from test c.args.renamings.now c.loop-renaming.renaming-index c.renaming-item.result
    c.loop-renaming-test.true c.renaming-item.is true
    (sym c.is_refused_renaming.ensures ∙ c.if-is_refused_renaming.true))

pub loop-renaming-preserved : goal.loop-renaming-preserved
loop-renaming-preserved c =
    let test = λ (r : Renaming). is_refused (program_of c.args.check.now.home.now) (binders_of c.args.scope.now) r.outer
    && emitted_of c.args.check.now.table.now c.args.name.now r.inner in
    c.loop-renaming.invariant
    ∙ any_from test c.args.renamings.now c.loop-renaming.renaming-index c.renaming-item.result
    c.loop-renaming-test.true c.renaming-item.is false
    (sym c.is_refused_renaming.ensures ∙ c.if-is_refused_renaming.false)

pub returns : goal.returns
returns c =
    let test = λ (r : Renaming). is_refused (program_of c.args.check.now.home.now) (binders_of c.args.scope.now) r.outer
    && emitted_of c.args.check.now.table.now c.args.name.now r.inner in
    sym (c.loop-renaming.invariant
    ∙ at_drop_all (list_any test) c.args.renamings.now c.loop-renaming.renaming-index c.loop-renaming-test.false)
