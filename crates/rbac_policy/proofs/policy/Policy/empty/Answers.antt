use Rattle.std.proofs.Common.{ℕ, List, [], refl, ◌∙◌, ap, sym, subst}
use Rattle.rbac_policy.specs.declared.policy.Policy.{Policy}
use Rattle.rbac_policy.specs.declared.sizes.TheConstants.{USERS, ROLES, GRANTS, SESSIONS, SETS}
use Rattle.rbac_policy.specs.Change.{empty_policy}
use Rattle.rbac_policy.specs.StandsFor.{StandsFor}
use Rattle.rbac_policy.proofs.Beginning.{blank_stands}
use Rattle.rbac_policy.proofs.Growing.{policy_of_none}
use Rattle.rbac_policy.proofs.policy.Policy.empty.Goals as goal

-- the policy of no entry, with these rows
abbrev with_rows : List ℕ → Policy
with_rows juniors = record empty_policy { juniors = juniors }

pub returns-clause-exact : goal.returns-clause-exact
returns-clause-exact c = ap with_rows c.new.ensures ∙ sym policy_of_none

pub returns-clause-stands : goal.returns-clause-stands
returns-clause-stands c =
    subst (λ (p : Policy). StandsFor p []) (sym (ap with_rows c.new.ensures))
    (blank_stands USERS ROLES ROLES GRANTS SESSIONS SETS refl refl refl refl refl refl)
