use Rattle.std.proofs.Common.{◌∙◌, sym, ap}
use Rattle.std.proofs.lemmas.List.{take_all}
use Rattle.std.specs.List.{fold}
use Rattle.est_syntax.specs.declared.tree.Literal.TheViews.{out-Conjunction, out-Expression}
use Rattle.est_modules.specs.Scopes.{binders_of}
use Rattle.est_modules.proofs.TestPassing.{literal_passed, conjunction_passed, conjunction_whole, expression_whole}
use Rattle.est_modules.proofs.test_walk.+tests.Goals as goal

pub walk_conjunction-returns : goal.walk_conjunction-returns
walk_conjunction-returns g t c =
    let f = g.V.Visitor.after c.args.visitor.now in
    let bs = binders_of c.args.scope.now in
    let q = c.args.conjunction.now in
    let k = g.V.Visitor.state c.args.seen.now in
    let items = c.deref-literal-items.result.now in
    c.loop-literal.invariant
    ∙ ap (fold (literal_passed f bs) (literal_passed f bs k (out-Conjunction q).first.value))
    (take_all c.loop-literal.literal-index items c.loop-literal-test.false ∙ c.deref-literal-items.ensures.value)
    ∙ sym (conjunction_whole f bs q k)

pub walk_expression-returns : goal.walk_expression-returns
walk_expression-returns g t c =
    let f = g.V.Visitor.after c.args.visitor.now in
    let bs = binders_of c.args.scope.now in
    let e = c.args.expression.now in
    let k = g.V.Visitor.state c.args.seen.now in
    let items = c.deref-conjunction-items.result.now in
    c.loop-conjunction.invariant
    ∙ ap (fold (conjunction_passed f bs) (conjunction_passed f bs k (out-Expression e).first.value))
    (take_all c.loop-conjunction.conjunction-index items c.loop-conjunction-test.false
    ∙ c.deref-conjunction-items.ensures.value)
    ∙ sym (expression_whole f bs e k)
