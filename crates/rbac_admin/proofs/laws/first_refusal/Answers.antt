use Rattle.rbac_admin.proofs.OneAnswer.{all_definite}
use Rattle.rbac_admin.proofs.Accepted.{refused_first, accepted_all}
use Rattle.refusal_rules.proofs.RuleLemmas.{silent_before}
use Rattle.rbac_admin.specs.PolicyStep.{policy_rules}
use Rattle.rbac_admin.proofs.laws.first_refusal.Goals as goal

pub returns-clause-refused : goal.returns-clause-refused
returns-clause-refused c = refused_first

pub returns-clause-accepted : goal.returns-clause-accepted
returns-clause-accepted c = accepted_all

pub returns-clause-silent : goal.returns-clause-silent
returns-clause-silent c = λ entries session command. silent_before (policy_rules entries session command)
    (all_definite entries session command)
