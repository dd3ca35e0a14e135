use Rattle.std.proofs.Common.{◌∙◌, ◌∷◌, sym, ap, rules}
use Rattle.std.proofs.lemmas.List.{take_all}
use Rattle.std.specs.List.{fold}
use Rattle.est_syntax.specs.declared.tree.Branches.TheViews.{out-Sequence, out-Statement}
use Rattle.est_syntax.specs.declared.tree.Branches.TheFolds.{the_lemmas}
use Rattle.est_syntax.specs.Views.{names_view}
use Rattle.est_modules.specs.Occurrences.{signals}
use Rattle.est_modules.specs.Scopes.{binders_of}
use Rattle.est_modules.proofs.Opening.{open_so}
use Rattle.est_modules.proofs.Passing.{unit_passed, sequence_passed, sequence_whole, statement_whole}
use Rattle.est_modules.proofs.walk.+walk.Goals as goal

pub walk_sequence-returns : goal.walk_sequence-returns
walk_sequence-returns g t c =
    let f = g.V.Visitor.after c.args.visitor.now in
    let bs = binders_of c.args.scope.now in
    let q = c.args.sequence.now in
    let k = g.V.Visitor.state c.args.seen.now in
    let items = c.deref-unit-items.result.now in
    c.loop-unit.invariant
    ∙ ap (fold (unit_passed f bs) (unit_passed f bs k (out-Sequence q).first.value))
    (take_all c.loop-unit.unit-index items c.loop-unit-test.false ∙ c.deref-unit-items.ensures.value)
    ∙ sym (sequence_whole f bs q k)

pub walk_statement-returns : goal.walk_statement-returns
walk_statement-returns g t c =
    let f = g.V.Visitor.after c.args.visitor.now in
    let bs = binders_of c.args.scope.now in
    let p = c.args.statement.now in
    let k = g.V.Visitor.state c.args.seen.now in
    let items = c.deref-sequence-items.result.now in
    c.loop-sequence.invariant
    ∙ ap (fold (sequence_passed f bs) (sequence_passed f bs k (out-Statement p).first.value))
    (take_all c.loop-sequence.sequence-index items c.loop-sequence-test.false ∙ c.deref-sequence-items.ensures.value)
    ∙ sym (statement_whole f bs p k)

pub walk_unit-walk_statement-requires-in-Signal : goal.walk_unit-walk_statement-requires-in-Signal
walk_unit-walk_statement-requires-in-Signal g t c κs within =
    let bs = binders_of c.args.scope.now in
    let o = c.args.kept.now in
    let inside = open_so (g.V.Visitor.fits c.args.visitor.now)
    (signals (names_view c.in-Signal.names) ∷ bs) c.in_ok-inside-in-Signal.inside o.table.now o.modules.now
    c.in_ok-inside-in-Signal.ensures.same c.requires.0 c.requires.1
    (c.in_ok-inside-in-Signal.ensures.hidden bs c.requires.2) in
    search (rules, the_lemmas, inside)
