use Rattle.rbac_policy.proofs.Deciding.{live_decided, may_decided}
use Rattle.rbac_policy.proofs.Growing.{stands_front}
use Rattle.rbac_policy.proofs.laws.fronts_are_decided.Goals as goal

pub returns-clause-lives : goal.returns-clause-lives
returns-clause-lives c = λ entries fit n session. live_decided _ _ (stands_front entries fit n) session

pub returns-clause-may : goal.returns-clause-may
returns-clause-may c = λ entries fit n session operation object. may_decided _ _
    (stands_front entries fit n) session operation object
