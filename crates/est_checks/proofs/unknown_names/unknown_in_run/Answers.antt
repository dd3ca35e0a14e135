use Rattle.std.proofs.Common.{◌∙◌, List, option_map, sym, ap, map}
use Rattle.std.specs.List.{find}
use Rattle.est_syntax.specs.Views.{renaming_view}
use Rattle.est_syntax.specs.declared.tree.Renaming.{Renaming}
use Rattle.est_modules.specs.Scopes.{binders_of}
use Rattle.est_modules.specs.Modules.{program_of, program_named}
use Rattle.est_modules.specs.Visible.{stands_in}
use Rattle.est_modules.specs.declared.interface.Declared.{Declared}
use Rattle.est_checks.specs.Inner.InterfaceNames.{names_in}
use Rattle.est_checks.specs.UnknownNames.{is_unbound, unknown_in_run}
use Rattle.est_checks.proofs.Listing.{names_of, run_renaming, run_name, run_nowhere}
use Rattle.est_checks.proofs.Unbinding.{run_bound}
use Rattle.est_checks.proofs.unknown_names.unknown_in_run.Goals as goal

pub returns-in-Some : goal.returns-in-Some
returns-in-Some c =
    run_renaming (program_of c.args.check.now.home.now) (binders_of c.args.scope.now) c.args.renamings.now
    (program_named (map program_of c.args.check.now.modules.now) c.args.name.now) c.in-Some.ensures

pub returns : goal.returns
returns c =
    let p = program_of c.args.check.now.home.now in
    let bs = binders_of c.args.scope.now in
    let rs = c.args.renamings.now in
    let q = program_of c.in-Some-named.run'.now in
    let renamed = c.in_ok-renamings.renamings in
    run_name p bs rs q (sym c.in_default.is ∙ c.unknown_renaming.ensures)
    (c.unbound_name.ensures
    ∙ ap (λ (ds : List Declared). option_map (λ (d : Declared). d.name)
    (find (λ (d : Declared). is_unbound p bs (map renaming_view renamed) d.name) ds)) c.signals.ensures
    ∙ ap (λ (l : List Renaming). names_of p bs l q) c.in_ok-renamings.ensures)
    ∙ ap (unknown_in_run p bs (map renaming_view rs)) c.in-Some-named.ensures

pub returns-then-bound : goal.returns-then-bound
returns-then-bound c =
    let p = program_of c.args.check.now.home.now in
    let bs = binders_of c.args.scope.now in
    let rs = c.args.renamings.now in
    let q = program_of c.in-Some-named.run'.now in
    run_bound p bs rs q (sym c.in_default.is ∙ c.unknown_renaming.ensures)
    (λ s here. c.in_ok-bound.ensures c.if-bound.true s
    (ap (λ o. stands_in (names_in o) s) (sym c.in-Some-named.ensures) ∙ here))
    ∙ ap (unknown_in_run p bs (map renaming_view rs)) c.in-Some-named.ensures

pub returns-in_default-named : goal.returns-in_default-named
returns-in_default-named c =
    let p = program_of c.args.check.now.home.now in
    let bs = binders_of c.args.scope.now in
    run_nowhere p bs c.args.renamings.now (sym c.in_default.is ∙ c.unknown_renaming.ensures)
    ∙ ap (unknown_in_run p bs (map renaming_view c.args.renamings.now)) c.in_default-named.ensures
