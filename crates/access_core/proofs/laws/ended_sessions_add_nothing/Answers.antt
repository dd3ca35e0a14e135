use Rattle.access_core.proofs.EndedSessions.{adds_nothing}
use Rattle.access_core.proofs.laws.ended_sessions_add_nothing.Goals as goal

pub returns : goal.returns
returns c = adds_nothing c.ended_sessions_stay_ended.ensures
