use Rattle.std.proofs.Common.{◌^◌, ◌<◌, ◌≡◌, ◌↔◌, ◌+◌, ℕ, List, length, arith, sym, subst}
use Rattle.rbac_closure.specs.declared.role_sets.TheConstants.{ROLES}
use Rattle.rbac_closure.specs.Sets.{Has, IsFirstFrom}
use Rattle.rbac_closure.specs.Inner.Rows.{IsInTable}
use Rattle.rbac_closure.proofs.EdgeLemmas.{IsFound, found_begins, found_more, found_past, found_ends, below_in_table}
use Rattle.rbac_closure.proofs.hierarchy.RoleHierarchy.below_some.Goals as goal

pub loop-role-init : goal.loop-role-init
loop-role-init c = (omega arith, λ place. found_begins c.args.self.now c.args.roles place)

pub loop-role-smaller : goal.loop-role-smaller
loop-role-smaller c =
    let first : IsFirstFrom c.args.roles c.loop-role.next c.in-Some.role = c.in-Some.ensures.first in
    omega (arith, first.after, c.in-Some.ensures.within)

pub loop-role-preserved : goal.loop-role-preserved
loop-role-preserved c =
    let edges = c.args.self.now in
    let next = c.loop-role.next in
    let role = c.in-Some.role in
    let first : IsFirstFrom c.args.roles next role = c.in-Some.ensures.first in (
      omega (arith, c.in-Some.ensures.within),
      λ place. subst (λ n. Has n place ↔ IsFound edges c.args.roles (role + 1) place) (sym c.union-found.ensures)
          (found_more edges c.args.roles c.loop-role.found c.below.result role place first.within
          (c.below.ensures place)
          (found_past edges c.args.roles c.loop-role.found next role place first.after first.first
          (c.loop-role.invariant.1 place))),
    )

pub returns-clause-found : goal.returns-clause-found
returns-clause-found c = λ place.
    found_ends c.args.self.now c.args.roles c.loop-role.found c.loop-role.next place c.in_default.ensures.first
    (c.loop-role.invariant.1 place)

pub returns-clause-within : goal.returns-clause-within
returns-clause-within c = λ place h.
    let edges = c.args.self.now in
    let table : IsInTable edges = subst (λ (e : List ℕ). IsInTable e) c.self.view_is c.self.invariant.in_table in
    let fits : c.args.roles < 2 ^ ROLES = subst (λ (n : ℕ). n < 2 ^ ROLES) c.roles.view_is c.roles.invariant in
    let found = found_ends edges c.args.roles c.loop-role.found c.loop-role.next place c.in_default.ensures.first
    (c.loop-role.invariant.1 place) in
    below_in_table edges c.args.roles place table fits (found.0 h)

pub returns-clause-places : goal.returns-clause-places
returns-clause-places c = subst (λ (e : List ℕ). length e ≡ ROLES) c.self.view_is c.self.invariant.full
