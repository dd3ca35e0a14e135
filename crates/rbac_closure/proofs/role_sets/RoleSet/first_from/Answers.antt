use Rattle.std.proofs.Common.{◌≡◌, ◌<◌, ◌+◌, ◌/◌, ◌^◌, ℕ, arith, rules, sym, subst}
use Rattle.std.specs.Int.{w64, trailing_zeros}
use Rattle.std.proofs.Math.Nat.{div-le_self}
use Rattle.rbac_closure.specs.declared.role_sets.TheConstants.{ROLES}
use Rattle.rbac_closure.specs.Sets.{Has, IsFirstFrom}
use Rattle.rbac_closure.proofs.CountLemmas.{lowest_is_first, none_is_left, in_table}
use Rattle.rbac_closure.proofs.role_sets.RoleSet.first_from.Goals as goal

pub returns-then-start-eq-ROLES-clause-first : goal.returns-then-start-eq-ROLES-clause-first
returns-then-start-eq-ROLES-clause-first c = λ place from has.
    let fits : c.args.self < 2 ^ ROLES = subst (λ (n : ℕ). n < 2 ^ ROLES) c.self.view_is c.self.invariant in
    let all : c.args.start ≡ ROLES = search (rules, c.if-start-eq-ROLES.true) in
    omega (arith, in_table c.args.self place fits has, from, all)

pub returns-then-left-eq0-clause-first : goal.returns-then-left-eq0-clause-first
returns-then-left-eq0-clause-first c = λ place from has.
    let none : c.self.inside.bits / 2 ^ c.args.start ≡ 0 = search (rules, c.if-left-eq0.true) in
    none_is_left c.self.inside.bits c.args.start none place from (subst (λ n. Has n place) (sym c.self.view_is) has)

-- the place that is answered is the first
first : (bits set start : ℕ) → bits ≡ set → bits < 2 ^ ROLES → (bits / 2 ^ start ≡ 0 → ⊥)
    → IsFirstFrom set start (start + trailing_zeros w64 (bits / 2 ^ start))
first bits set start same fits some =
    subst (λ n. IsFirstFrom n start (start + trailing_zeros w64 (bits / 2 ^ start))) same
    (lowest_is_first bits start (omega (arith, some)) (omega (arith, fits, div-le_self bits (2 ^ start))))

pub returns-clause-first : goal.returns-clause-first
returns-clause-first c = first c.self.inside.bits c.args.self c.args.start c.self.view_is c.self.invariant
    (λ e. search (rules, c.if-left-eq0.false, e))

pub returns-clause-within : goal.returns-clause-within
returns-clause-within c =
    let fits : c.args.self < 2 ^ ROLES = subst (λ (n : ℕ). n < 2 ^ ROLES) c.self.view_is c.self.invariant in
    let at = first c.self.inside.bits c.args.self c.args.start c.self.view_is c.self.invariant
    (λ e. search (rules, c.if-left-eq0.false, e)) in
    in_table c.args.self (c.args.start + trailing_zeros w64 (c.self.inside.bits / 2 ^ c.args.start)) fits at.within
