use Rattle.std.proofs.Common.{◌∙◌, ◌∷◌, [], List, map, ap, sym, subst, length, refl, arith}
use Rattle.std.proofs.lemmas.Result.{err_from_is_err_and}
use Rattle.std.proofs.lemmas.List.{map-append}
use Rattle.est_text.specs.declared.token.Token.{Token}
use Rattle.est_syntax.specs.declared.tree.Module.{Module}
use Rattle.est_syntax.specs.Tree.{ModuleTree}
use Rattle.est_syntax.specs.Views.{module_view}
use Rattle.est_syntax.specs.Inner.Modules.{AreModules}
use Rattle.est_syntax.proofs.Libraries.{no_modules_yet, one_more_module, more_modules_fail, modules_over}
use Rattle.est_syntax.proofs.modules.later_modules.Goals as goal

pub modules-init : goal.modules-init
modules-init c = no_modules_yet (map module_view c.new-modules.result.items) c.args.cursor.now
    (ap (λ (ps : List Module). map module_view ps) c.new-modules.ensures.items)

pub modules-preserved : goal.modules-preserved
modules-preserved c =
    let items = c.modules.modules.items in
    let next = c.in_ok-next.next in
    let all =
    ap (λ (ps : List Module). map module_view ps) c.in_ok-push.ensures.items
    ∙ map-append module_view items (next ∷ []) in
    subst (λ (ps : List ModuleTree). AreModules ps c.args.cursor.now c.module.new.cursor) (sym all)
    (one_more_module (map module_view items)
    (module_view next) c.args.cursor.now c.modules.cursor c.take_keyword.new.self c.module.new.cursor
    c.modules.invariant (c.modules-test.ensures.first refl) c.in_ok-next.ensures.ok)

pub modules-smaller : goal.modules-smaller
modules-smaller c =
    omega (arith, ap (length {A = Token}) (c.modules-test.ensures.first refl), c.in_ok-next.ensures.ok.shorter)

pub returns-in_err-next-clause-err : goal.returns-in_err-next-clause-err
returns-in_err-next-clause-err c =
    let p = err_from_is_err_and c.from_residual.result c.from_residual.ensures.1 in
    rw (p.1, p.2) (more_modules_fail (map module_view c.modules.modules.items) c.args.cursor.now c.modules.cursor
    c.take_keyword.new.self c.in_err-next.field-0.0 c.modules.invariant
    (c.modules-test.ensures.first refl) c.in_err-next.ensures.err)

pub returns-clause-ok : goal.returns-clause-ok
returns-clause-ok c =
    modules_over (map module_view c.modules.modules.items) c.args.cursor.now c.modules.cursor c.take_keyword.new.self
    c.modules.invariant (c.modules-test.ensures.same refl) (c.modules-test.ensures.other refl)
