use Rattle.std.proofs.Common.{◌≡◌, sym, subst, arith, ℕ, List, length}
use Rattle.rbac_closure.specs.declared.role_sets.TheConstants.{ROLES}
use Rattle.rbac_closure.proofs.EdgeLemmas.{HasSeniors, seniors_begin, seniors_end}
use Rattle.rbac_closure.proofs.hierarchy.RoleHierarchy.rebuild.Goals as goal

pub loop-senior-init : goal.loop-senior-init
loop-senior-init c = subst (λ (r : List ℕ). HasSeniors c.args.juniors.now r 0) (sym c.new-hierarchy.ensures)
    (seniors_begin c.args.juniors.now)

pub returns : goal.returns
returns c =
    let all : c.loop-senior.senior ≡ ROLES = omega arith in
    let full : length c.args.juniors.now ≡ ROLES = omega arith in
    seniors_end c.args.juniors.now c.loop-senior.hierarchy full
    (subst (HasSeniors c.args.juniors.now c.loop-senior.hierarchy) all c.loop-senior.invariant)
