use Rattle.rbac_closure.proofs.EdgeLemmas.{HasSeniors}
use Rattle.rbac_closure.proofs.hierarchy.RoleHierarchy.rebuild.Given as goal

abbrev pub invariant-loop-senior : goal.invariant-loop-senior
invariant-loop-senior l = HasSeniors l.juniors l.hierarchy l.senior
