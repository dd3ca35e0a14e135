use Rattle.rbac_admin.proofs.PolicyListLemmas.{opening_is_list, list_grows}
use Rattle.rbac_admin.proofs.laws.policy_lists_grow.Goals as goal

pub returns-clause-opening : goal.returns-clause-opening
returns-clause-opening c = opening_is_list

pub returns-clause-grows : goal.returns-clause-grows
returns-clause-grows c = list_grows
