-- The roles of a separation set: each is one, and none stands twice.
use Rattle.std.proofs.Common.{◌≢◌, suc, List, get_or, arith, sym, ◌∙◌, ap}
use Rattle.std.specs.Prelude.{Some, Contains}
use Rattle.std.specs.List.{AllPairs}
use Rattle.std.proofs.lemmas.Option.{slice_get-get_or, slice_get_within, get_or_from_slice_get}
use Rattle.rbac_policy.specs.declared.policy.Policy.{Policy}
use Rattle.rbac_policy.specs.declared.commands.Entry.{Entry}
use Rattle.rbac_policy.specs.Names.{NameText}
use Rattle.rbac_policy.specs.Facts.{IsRole}
use Rattle.rbac_policy.specs.StandsFor.{StandsFor}
use Rattle.rbac_admin.specs.Conditions.{FirstListed}
use Rattle.rbac_admin.proofs.Listing.{none_anywhere, taken, was_taken}
use Rattle.rbac_admin.proofs.Fitting.{role_unless}

-- where no listed name is the first that is no role, each is one
pub all_roles : (p : Policy) (L : List Entry) → StandsFor p L → (roles : List NameText)
    → ((role : NameText) → FirstListed (λ before name. IsRole L name → ⊥) roles role → ⊥)
    → (role : NameText) → Contains roles role → IsRole L role
all_roles p L st roles none role listed =
    let before = none_anywhere (λ before name. IsRole L name → ⊥) roles none (suc listed.0) in
    role_unless p L st role
    (before.none listed.0 role (omega arith) (slice_get-get_or roles listed.0 role listed.1 ∙ ap Some listed.2))

-- a role that stands a second time
pub repeated_twice : (roles : List NameText) (role : NameText) → FirstListed Contains roles role
    → AllPairs (λ one other. one ≢ other) roles → ⊥
repeated_twice roles role first distinct =
    let k = was_taken roles first.at role first.has in
    distinct k.0 first.at role k.1 (slice_get_within roles first.at role first.there)
    (get_or_from_slice_get roles k.0 role role k.2 ∙ sym (get_or_from_slice_get roles first.at role role first.there))

-- where there is none, the roles are distinct
pub none_twice : (roles : List NameText) → ((role : NameText) → FirstListed Contains roles role → ⊥)
    → AllPairs (λ one other. one ≢ other) roles
none_twice roles none p q d low within = λ same.
    let before = none_anywhere Contains roles none (suc q) in
    let there = slice_get-get_or roles q d within in
    before.none q (get_or roles q d) (omega arith) there
    (taken roles q p (get_or roles q d) low (slice_get-get_or roles p d (omega (arith, low, within)) ∙ ap Some same))
