use Rattle.rbac_admin.proofs.PolicyListLemmas.{few_entries, still_leaves}
use Rattle.rbac_admin.proofs.laws.accepted_leaves_room.Goals as goal

pub returns-clause-few : goal.returns-clause-few
returns-clause-few c = few_entries

pub returns-clause-left : goal.returns-clause-left
returns-clause-left c = still_leaves
