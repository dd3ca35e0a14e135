use Rattle.std.proofs.Common.{◌<◌, ℕ, List, length, map, arith, sym, subst}
use Rattle.std.specs.Prelude.{slice_set}
use Rattle.rbac_closure.specs.Sets.{without_place}
use Rattle.rbac_closure.specs.Inner.Rows.{IsInTable}
use Rattle.rbac_closure.proofs.EdgeLemmas.{cleared_in_table}
use Rattle.rbac_closure.proofs.hierarchy.RoleHierarchy.clear_role.Goals as goal

pub rebuild-requires : goal.rebuild-requires
rebuild-requires c =
    let edges = c.self.inside.juniors in
    let within : c.args.role < length edges = omega arith in
    subst (λ (r : List ℕ). IsInTable (slice_set r c.args.role c.empty.result)) (sym c.take_out.ensures)
    (subst (λ (n : ℕ). IsInTable
    (slice_set (map (λ (juniors : ℕ). without_place juniors c.args.role) edges) c.args.role n))
    (sym c.empty.ensures)
    (cleared_in_table c.args.role edges within c.self.invariant.in_table))
