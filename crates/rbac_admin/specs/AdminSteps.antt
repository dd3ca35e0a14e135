-- What a policy command is answered where the accepted entries are kept in a list (this project's own form).
use Rattle.std.specs.Prelude.{ℕ, List, Option, Result, MatchResult}
use Rattle.refusal_rules.specs.Rules.{MayRefuse, accept, ◌▸◌, Answers}
use Rattle.rbac_policy.specs.declared.commands.AdminCommand.{AdminCommand}
use Rattle.rbac_policy.specs.declared.commands.Entry.{Entry}
use Rattle.rbac_admin.specs.declared.refusal.PolicyRefusal.{PolicyRefusal}
use Rattle.rbac_admin.specs.PolicyStep.{PolicyStep}
use Rattle.rbac_admin.specs.Room.{list_full}

-- the refusals of such a list: how it tells those of the policy step, and its own, where it is full and where memory is
-- refused
pub record ListRefusals (R : Type 0) : Type 0 where
  pub told : PolicyRefusal → R
  pub full : R
  pub memory : R

-- what is answered to a policy command, which this session gives, after these entries: the policy step's refusal; or
-- its entry is appended, unless the list is full or memory is refused. Refused says what it is to be answered with a
-- refusal, and Appended what it is that the entry is appended
pub record StepsOnList {R : Type 0} (refusals : ListRefusals R) (entries : List Entry) (session : Option ℕ)
    (command : AdminCommand) (Refused : R → Type 0) (Appended : Entry → Type 0) : Type 0 where
  pub answer : Result Entry PolicyRefusal
  pub given : PolicyStep entries session command answer
  pub replied : MatchResult answer
      (λ entry. Answers (list_full refusals.full entries entry ▸ MayRefuse refusals.memory ▸ accept) Refused
      (Appended entry))
      (λ refusal. Refused (refusals.told refusal))
