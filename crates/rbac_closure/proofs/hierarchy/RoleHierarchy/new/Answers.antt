use Rattle.std.proofs.Common.{ℕ, sym, subst, refl}
use Rattle.std.specs.Prelude.{replicate}
use Rattle.rbac_closure.specs.declared.role_sets.TheConstants.{ROLES}
use Rattle.rbac_closure.specs.Inner.Rows.{IsClosed}
use Rattle.rbac_closure.proofs.EdgeLemmas.{closed_alone}
use Rattle.rbac_closure.proofs.hierarchy.RoleHierarchy.new.Goals as goal

pub invariant_of-result : goal.invariant_of-result
invariant_of-result c =
    subst (λ (x : ℕ). IsClosed (replicate ROLES x) c.each_alone.result c.each_alone-2.result) (sym c.empty.ensures)
    (closed_alone ROLES c.each_alone.result c.each_alone-2.result c.each_alone.ensures c.each_alone-2.ensures refl)
