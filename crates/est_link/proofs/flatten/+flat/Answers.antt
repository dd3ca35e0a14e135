use Rattle.std.proofs.Common.{◌≡◌, ◌∙◌, sym, ap, map, drop, option_map, subst, IfOk, arith}
use Rattle.est_syntax.specs.declared.tree.Branches.TheViews.{out-Sequence, out-Statement}
use Rattle.est_link.specs.Inner.Scopes.{binders_of}
use Rattle.est_modules.specs.Modules.{program_of}
use Rattle.est_reduce.specs.Bodies.{Body as FlatTerm, seq, par}
use Rattle.est_link.specs.Inner.Tables.{bodies_of}
use Rattle.est_link.specs.Inner.OpenBodies.{closed_of}
use Rattle.est_link.specs.Inner.Joins.{joined_by, chained}
use Rattle.est_link.proofs.Places.{boxed_body, unit_linked, sequence_linked, sequence_whole, statement_whole}
use Rattle.est_link.proofs.flatten.+flat.Goals as goal

pub flat_sequence-returns : goal.flat_sequence-returns
flat_sequence-returns t c =
    let l = c.args.at.now.linker.now in
    let ps = map program_of l.modules.now in
    let bodies = bodies_of l.bodies.now in
    let p = program_of l.home.now in
    let bs = binders_of c.args.at.now.scope.now in
    let q = c.args.sequence.now in
    let here = unit_linked ps bodies p bs in
    let none : c.loop-left.left ≡ 0 = omega arith in
    let e : closed_of c.in_ok-flat-2.flat ≡ here (out-Sequence q).first.value = cc c.in_ok-flat-2.ensures in
    let d : option_map boxed_body c.loop-left.rest ≡ chained seq here (out-Sequence q).later.items =
    c.loop-left.invariant.done ∙ ap (λ i. chained seq here (drop i c.as_slice-units.result.now)) none
    ∙ ap (chained seq here) c.as_slice-units.ensures.value in
    let P : FlatTerm → Type 0 = λ x. IfOk c.then-2.result (λ f. closed_of f ≡ x) in
    subst P (ap (λ x. joined_by seq x (option_map boxed_body c.loop-left.rest)) e
    ∙ ap (joined_by seq (here (out-Sequence q).first.value)) d ∙ sym (sequence_whole ps bodies p bs q))
    c.then-2.ensures

pub flat_statement-returns : goal.flat_statement-returns
flat_statement-returns t c =
    let l = c.args.at.now.linker.now in
    let ps = map program_of l.modules.now in
    let bodies = bodies_of l.bodies.now in
    let p = program_of l.home.now in
    let bs = binders_of c.args.at.now.scope.now in
    let q = c.args.statement.now in
    let here = sequence_linked ps bodies p bs in
    let none : c.loop-left.left ≡ 0 = omega arith in
    let e : closed_of c.in_ok-flat-2.flat ≡ here (out-Statement q).first.value = cc c.in_ok-flat-2.ensures in
    let d : option_map boxed_body c.loop-left.rest ≡ chained par here (out-Statement q).later.items =
    c.loop-left.invariant.done ∙ ap (λ i. chained par here (drop i c.as_slice-sequences.result.now)) none
    ∙ ap (chained par here) c.as_slice-sequences.ensures.value in
    let P : FlatTerm → Type 0 = λ x. IfOk c.beside-2.result (λ f. closed_of f ≡ x) in
    subst P (ap (λ x. joined_by par x (option_map boxed_body c.loop-left.rest)) e
    ∙ ap (joined_by par (here (out-Statement q).first.value)) d ∙ sym (statement_whole ps bodies p bs q))
    c.beside-2.ensures
