use Rattle.rbac_policy.proofs.Deciding as deciding
use Rattle.rbac_policy.proofs.laws.facts_are_decided.Goals as goal

pub returns-clause-lives : goal.returns-clause-lives
returns-clause-lives c = deciding.live_decided

pub returns-clause-may : goal.returns-clause-may
returns-clause-may c = deciding.may_decided
