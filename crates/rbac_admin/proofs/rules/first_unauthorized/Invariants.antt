use Rattle.std.proofs.Common.{List}
use Rattle.rbac_policy.specs.declared.commands.Entry.{Entry}
use Rattle.rbac_policy.specs.StandsFor.{StandsFor}
use Rattle.rbac_policy.specs.Facts.{IsAuthorized}
use Rattle.rbac_admin.proofs.Listing.{NoneBefore}
use Rattle.rbac_admin.proofs.rules.first_unauthorized.Given as goal

abbrev pub invariant-loop-place : goal.invariant-loop-place
invariant-loop-place l = (entries : List Entry) → StandsFor l.policy entries
    → NoneBefore (λ before name. IsAuthorized entries l.user name → ⊥) l.roles l.place
