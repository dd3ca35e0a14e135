use Rattle.std.proofs.Common.{◌≡◌, take}
use Rattle.std.specs.List.{fold}
use Rattle.est_syntax.specs.declared.tree.Literal.TheViews.{out-Conjunction, out-Expression}
use Rattle.est_modules.specs.Scopes.{binders_of}
use Rattle.est_modules.proofs.TestPassing.{literal_passed, conjunction_passed}
use Rattle.est_modules.proofs.test_walk.+tests.Given as goal

abbrev pub invariant-walk_conjunction-loop-literal : goal.invariant-walk_conjunction-loop-literal
invariant-walk_conjunction-loop-literal g l =
    let here = literal_passed (g.V.Visitor.after l.visitor) (binders_of l.scope) in
    g.V.Visitor.state l.seen
    ≡ fold here (here (g.V.Visitor.state l.fn.seen) (out-Conjunction l.conjunction).first.value)
    (take l.literal-index l.literal-items)

abbrev pub invariant-walk_expression-loop-conjunction : goal.invariant-walk_expression-loop-conjunction
invariant-walk_expression-loop-conjunction g l =
    let here = conjunction_passed (g.V.Visitor.after l.visitor) (binders_of l.scope) in
    g.V.Visitor.state l.seen ≡ fold here (here (g.V.Visitor.state l.fn.seen) (out-Expression l.expression).first.value)
    (take l.conjunction-index l.conjunction-items)
