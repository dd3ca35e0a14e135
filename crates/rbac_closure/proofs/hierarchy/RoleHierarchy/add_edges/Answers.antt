use Rattle.std.proofs.Common.{◌<◌, ◌+◌, length, rules, arith, ap, sym, ◌∙◌, subst, length-set}
use Rattle.std.specs.Prelude.{slice_index}
use Rattle.rbac_closure.specs.Sets.{with_place}
use Rattle.rbac_closure.specs.Inner.Rows.{HasJuniors}
use Rattle.rbac_closure.proofs.EdgeLemmas.{junior_added, junior_passed}
use Rattle.rbac_closure.proofs.hierarchy.RoleHierarchy.add_edges.Goals as goal
use Rattle.rbac_closure.proofs.hierarchy.RoleHierarchy.add_edges.Goals.{then-has, else-has}

pub loop-junior-preserved : goal.loop-junior-preserved
loop-junior-preserved c =
    let old = c.args.self.now in
    let edges = c.loop-junior.self in
    let s = c.args.senior in
    let i = c.loop-junior.junior in
    elim c.if-has.branch [
      | then-has w ↦
          let longer = ap length w.add_edge.ensures.added in
          let within : s < length edges =
          omega (
            arith,
            c.requires,
            longer,
            w.add_edge.ensures.places,
            length-set edges s (with_place (slice_index edges s) i),
          ) in
          subst (λ n. HasJuniors old n s c.args.juniors (i + 1)) (sym (w.self-is ∙ w.add_edge.ensures.added))
          (junior_added old edges s c.args.juniors i c.loop-junior.invariant
          (c.has.ensures.0 (search (rules, w.if-has.true))) within)
      | else-has w ↦ subst (λ n. HasJuniors old n s c.args.juniors (i + 1)) (sym w.self-is)
          (junior_passed old edges s c.args.juniors i c.loop-junior.invariant
          (λ h. search (rules, c.has.ensures.1 h, w.if-has.false)))
    ]
