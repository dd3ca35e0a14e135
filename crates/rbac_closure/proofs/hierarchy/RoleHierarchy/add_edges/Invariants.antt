use Rattle.rbac_closure.specs.Inner.Rows.{HasJuniors}
use Rattle.rbac_closure.proofs.hierarchy.RoleHierarchy.add_edges.Given as goal

abbrev pub invariant-loop-junior : goal.invariant-loop-junior
invariant-loop-junior l = HasJuniors l.fn.self l.self l.senior l.juniors l.junior
