use Rattle.std.proofs.Common.{◌≡◌, take}
use Rattle.std.specs.List.{fold}
use Rattle.est_syntax.specs.declared.tree.Branches.TheViews.{out-Sequence, out-Statement}
use Rattle.est_modules.specs.Scopes.{binders_of}
use Rattle.est_modules.proofs.Passing.{unit_passed, sequence_passed}
use Rattle.est_modules.proofs.walk.+walk.Given as goal

abbrev pub invariant-walk_sequence-loop-unit : goal.invariant-walk_sequence-loop-unit
invariant-walk_sequence-loop-unit g l =
    let here = unit_passed (g.V.Visitor.after l.visitor) (binders_of l.scope) in
    g.V.Visitor.state l.seen ≡ fold here (here (g.V.Visitor.state l.fn.seen) (out-Sequence l.sequence).first.value)
    (take l.unit-index l.unit-items)

abbrev pub invariant-walk_statement-loop-sequence : goal.invariant-walk_statement-loop-sequence
invariant-walk_statement-loop-sequence g l =
    let here = sequence_passed (g.V.Visitor.after l.visitor) (binders_of l.scope) in
    g.V.Visitor.state l.seen ≡ fold here (here (g.V.Visitor.state l.fn.seen) (out-Statement l.statement).first.value)
    (take l.sequence-index l.sequence-items)
