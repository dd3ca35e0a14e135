use Rattle.history_events.proofs.Enterings.{enters}
use Rattle.history_events.proofs.laws.signals_enter_where_offered.Goals as goal

pub returns : goal.returns
returns c = λ past m comes slot name is. enters c.one_module.ensures past m slot name comes is
