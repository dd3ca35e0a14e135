use Rattle.std.proofs.Common.{not, option_map, ap, sym, ◌∙◌}
use Rattle.std.proofs.lemmas.List.{at_drop_all}
use Rattle.std.specs.List.{find}
use Rattle.est_syntax.specs.declared.tree.Renaming.{Renaming}
use Rattle.est_modules.specs.Modules.{program_of}
use Rattle.est_modules.specs.Scopes.{binders_of}
use Rattle.est_modules.specs.Visible.{is_visible}
use Rattle.est_checks.proofs.Looping.{found_next, found_later}
use Rattle.est_checks.proofs.unknown_names.unknown_renaming.Goals as goal

pub returns-then-not-is_visible : goal.returns-then-not-is_visible
returns-then-not-is_visible c =
    let test = λ (r : Renaming). not (is_visible (program_of c.args.check.now.home.now) (binders_of c.args.scope.now)
    r.outer) in
    sym (ap (option_map (λ (r : Renaming). r.outer)) (c.loop-renaming.invariant
    ∙ found_next test c.args.renamings.now c.loop-renaming.renaming-index c.renaming-item.result
    c.loop-renaming-test.true c.renaming-item.is (ap not (sym c.is_visible.ensures ∙ c.if-not-is_visible.true))))

pub loop-renaming-preserved : goal.loop-renaming-preserved
loop-renaming-preserved c =
    let test = λ (r : Renaming). not (is_visible (program_of c.args.check.now.home.now) (binders_of c.args.scope.now)
    r.outer) in
    c.loop-renaming.invariant
    ∙ found_later test c.args.renamings.now c.loop-renaming.renaming-index c.renaming-item.result
    c.loop-renaming-test.true c.renaming-item.is (ap not (sym c.is_visible.ensures ∙ c.if-not-is_visible.false))

pub returns : goal.returns
returns c =
    let test = λ (r : Renaming). not (is_visible (program_of c.args.check.now.home.now) (binders_of c.args.scope.now)
    r.outer) in
    sym (ap (option_map (λ (r : Renaming). r.outer)) (c.loop-renaming.invariant
    ∙ at_drop_all (find test) c.args.renamings.now c.loop-renaming.renaming-index c.loop-renaming-test.false))
