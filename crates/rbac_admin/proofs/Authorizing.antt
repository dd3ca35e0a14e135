-- A user is authorized for each of the listed roles where none is the first for which it isn't.
use Rattle.std.proofs.Common.{suc, List, arith, ◌∙◌, ap, inl, inr}
use Rattle.std.specs.Prelude.{Some, Contains}
use Rattle.std.proofs.lemmas.Option.{slice_get-get_or}
use Rattle.rbac_policy.specs.declared.policy.Policy.{Policy}
use Rattle.rbac_policy.specs.declared.commands.Entry.{Entry}
use Rattle.rbac_policy.specs.Names.{NameText}
use Rattle.rbac_policy.specs.Facts.{IsAuthorized}
use Rattle.rbac_policy.specs.StandsFor.{StandsFor}
use Rattle.rbac_policy.proofs.Deciding.{authorized_decided}
use Rattle.rbac_admin.specs.Conditions.{FirstListed}
use Rattle.rbac_admin.proofs.Listing.{none_anywhere}

pub all_authorized : (p : Policy) (L : List Entry) → StandsFor p L → (user : NameText) (roles : List NameText)
    → ((role : NameText) → FirstListed (λ before name. IsAuthorized L user name → ⊥) roles role → ⊥)
    → (role : NameText) → Contains roles role → IsAuthorized L user role
all_authorized p L st user roles none role listed =
    let before = none_anywhere (λ before name. IsAuthorized L user name → ⊥) roles none (suc listed.0) in
    elim (authorized_decided p L st user role) [
      | inl is ↦ is
      | inr not ↦
          absurd (before.none listed.0 role (omega arith)
          (slice_get-get_or roles listed.0 role listed.1 ∙ ap Some listed.2) not)
    ]
