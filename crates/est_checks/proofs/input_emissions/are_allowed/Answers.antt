use Rattle.std.proofs.Common.{◌∙◌, ◌||◌, ◌&&◌, not, map, sym}
use Rattle.std.proofs.lemmas.Result.{IfOk-weaker}
use Rattle.est_modules.proofs.Opening.{kept_found}
use Rattle.est_modules.specs.Modules.{is_declared, is_input, program_of}
use Rattle.est_modules.specs.Scopes.{binders_of}
use Rattle.est_modules.specs.Visible.{is_local, is_tick}
use Rattle.est_checks.specs.Emissions.{emitted_of}
use Rattle.est_checks.specs.Inner.Emitted.{names_emitted_by}
use Rattle.est_checks.proofs.Barring.{allowed}
use Rattle.est_checks.proofs.input_emissions.are_allowed.Goals as goal

pub returns-in-Some : goal.returns-in-Some
returns-in-Some c =
    let check = c.args.check.now in
    let em = emitted_of check.table.now in
    let p = program_of check.home.now in
    let bs = binders_of c.args.scope.now in
    let m = c.args.name.now in
    let base = names_emitted_by (map program_of check.modules.now) em in
    let o = c.args.kept.now in
    IfOk-weaker c.are_bound.result _ _
    (λ found all so s here. allowed em p bs c.args.renamings.now m s
    (sym c.binds_input.ensures ∙ c.if-binds_input.false)
    (all so (base m) (is_local bs)
    (λ s. not (is_input p.interface s || is_tick s) && is_declared p.interface s)
    (kept_found o.table.now base m o.modules.now c.in-Some.emitted.now c.requires.0.kept (sym c.in-Some.ensures))
    c.requires.2 c.requires.0.allowed s here))
    c.are_bound.ensures
