use Rattle.std.proofs.Common.{◌<◌, ◌+◌, length, arith, sym, ◌∙◌, ap, subst, rules}
use Rattle.std.specs.Prelude.{slice_set}
use Rattle.std.proofs.lemmas.Grind.{get_or_default_zero}
use Rattle.rbac_closure.specs.Sets.{either}
use Rattle.rbac_closure.proofs.EdgeLemmas.{TakenUpTo, taken_in, passed_over}
use Rattle.rbac_closure.proofs.hierarchy.join.Goals as goal
use Rattle.rbac_closure.proofs.hierarchy.join.Goals.{then-has, else-has}

pub loop-role-preserved : goal.loop-role-preserved
loop-role-preserved c =
    let old = c.args.rows.now in
    let rows = c.loop-role.rows in
    let i = c.loop-role.role in
    let within : i < length old = omega arith in
    let inside : i < length rows = omega (arith, within, c.loop-role.invariant.same) in
    elim c.if-has.branch [
      | then-has w ↦
          let row = w.union.ensures ∙ ap (λ n. either n c.args.more)
          (get_or_default_zero rows i w.index-rows-role.result inside) in
          subst (λ r. TakenUpTo old r c.args.places c.args.more (i + 1)) (sym (w.rows-is ∙ ap (slice_set rows i) row))
          (taken_in old rows c.args.places c.args.more i within c.loop-role.invariant
          (c.has.ensures.0 (search (rules, w.if-has.true))))
      | else-has w ↦ subst (λ r. TakenUpTo old r c.args.places c.args.more (i + 1)) (sym w.rows-is)
          (passed_over old rows c.args.places c.args.more i c.loop-role.invariant
          (λ h. search (rules, c.has.ensures.1 h, w.if-has.false)))
    ]

pub returns : goal.returns
returns c = λ role few. c.loop-role.invariant.done role (omega arith)
