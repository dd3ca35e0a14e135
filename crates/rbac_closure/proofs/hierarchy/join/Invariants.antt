use Rattle.rbac_closure.proofs.EdgeLemmas.{TakenUpTo}
use Rattle.rbac_closure.proofs.hierarchy.join.Given as goal

abbrev pub invariant-loop-role : goal.invariant-loop-role
invariant-loop-role l = TakenUpTo l.fn.rows l.rows l.places l.more l.role
