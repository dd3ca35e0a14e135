use Rattle.rbac_policy.proofs.Growing.{stands_whole, stands_front}
use Rattle.rbac_policy.proofs.laws.policies_stand.Goals as goal

pub returns-clause-whole : goal.returns-clause-whole
returns-clause-whole c = stands_whole

pub returns-clause-front : goal.returns-clause-front
returns-clause-front c = stands_front
