use Rattle.std.proofs.Common.{ℕ, List, sym, map}
use Rattle.std.proofs.lemmas.Result.{IfOk-weaker}
use Rattle.std.specs.Prelude.{◌||◌}
use Rattle.est_syntax.specs.Views.{renaming_view}
use Rattle.est_modules.proofs.Opening.{kept_found}
use Rattle.est_modules.specs.Modules.{program_of, is_declared}
use Rattle.est_modules.specs.Renamings.{is_renamed}
use Rattle.est_modules.specs.Scopes.{binders_of}
use Rattle.est_modules.specs.Visible.{is_local, is_tick}
use Rattle.est_checks.specs.Inner.InterfaceNames.{names_of}
use Rattle.est_checks.specs.UnknownNames.{is_unbound}
use Rattle.est_checks.proofs.Unbinding.{bound}
use Rattle.est_checks.proofs.unknown_names.are_bound.Goals as goal

pub returns-in-Some : goal.returns-in-Some
unfolding is_unbound
returns-in-Some c =
    let check = c.args.check.now in
    let ds = (program_of check.home.now).interface in
    let own = λ (s : List ℕ). is_declared ds s || is_tick s in
    let bs = binders_of c.args.scope.now in
    let rs = map renaming_view c.args.renamings.now in
    let base = names_of (map program_of check.modules.now) in
    let m = c.args.name.now in
    let o = c.args.kept.now in
    IfOk-weaker c.are_bound.result _ _
    (λ found all so s here. bound (is_renamed rs s) (is_local bs s) (own s)
    (all so (base m) (is_local bs) own
    (kept_found o.table.now base m o.modules.now c.in-Some.names.now c.requires.0.kept (sym c.in-Some.ensures))
    c.requires.2 c.requires.0.own s here))
    c.are_bound.ensures
