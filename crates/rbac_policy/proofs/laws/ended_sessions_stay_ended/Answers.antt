use Rattle.rbac_policy.proofs.OfSessions.StayingEnded.{stays_ended}
use Rattle.rbac_policy.proofs.laws.ended_sessions_stay_ended.Goals as goal

pub returns : goal.returns
returns c = stays_ended
