use Rattle.std.proofs.Common.{◌<◌, ℕ, List, length, arith, ap, sym, ◌∙◌, subst}
use Rattle.std.specs.Prelude.{slice_set}
use Rattle.std.proofs.lemmas.Grind.{get_or_default_zero}
use Rattle.rbac_closure.specs.Sets.{without_place}
use Rattle.rbac_closure.specs.Edges.{IsEdge}
use Rattle.rbac_closure.specs.Inner.Rows.{IsInTable}
use Rattle.rbac_closure.proofs.EdgeLemmas.{removed_in_table, edge_absent}
use Rattle.rbac_closure.proofs.hierarchy.RoleHierarchy.remove_edge.Goals as goal

pub rebuild-requires : goal.rebuild-requires
rebuild-requires c =
    let edges = c.self.inside.juniors in
    let s = c.args.senior in
    let within : s < length edges = omega arith in
    let row = c.without.ensures ∙ ap (λ n. without_place n c.args.junior)
    (get_or_default_zero edges s c.index-juniors-senior.result within) in
    subst (λ n. IsInTable (slice_set edges s n)) (sym row)
    (removed_in_table s c.args.junior edges within c.self.invariant.in_table)

pub returns-clause-absent : goal.returns-clause-absent
returns-clause-absent c = λ none.
    let edges = c.self.inside.juniors in
    let s = c.args.senior in
    let j = c.args.junior in
    let full : s < length edges = omega arith in
    let row = c.without.ensures ∙ ap (λ n. without_place n j)
    (get_or_default_zero edges s c.index-juniors-senior.result full) in
    c.self-2.view_is ∙ c.rebuild.ensures ∙ ap (slice_set edges s) row
    ∙ edge_absent s j edges full (λ it. none (subst (λ (e : List ℕ). IsEdge e s j) c.self.view_is it)) ∙ c.self.view_is
