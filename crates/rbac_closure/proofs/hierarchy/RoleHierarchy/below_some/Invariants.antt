use Rattle.std.proofs.Common.{ℕ, ◌↔◌, ◌≤◌, ◌-◌}
use Rattle.rbac_closure.specs.declared.role_sets.TheConstants.{ROLES}
use Rattle.rbac_closure.specs.Sets.{Has}
use Rattle.rbac_closure.proofs.EdgeLemmas.{IsFound}
use Rattle.rbac_closure.proofs.hierarchy.RoleHierarchy.below_some.Given as goal

abbrev pub invariant-loop-role : goal.invariant-loop-role
invariant-loop-role l = (l.next ≤ ROLES) × ((place : ℕ) → Has l.found place ↔ IsFound l.self l.roles l.next place)

abbrev pub decreases-loop-role : goal.decreases-loop-role
decreases-loop-role l = ROLES - l.next
