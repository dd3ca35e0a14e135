use Rattle.history_laws.proofs.OneEnd.{one_world}
use Rattle.history_laws.proofs.laws.calls_end_in_these_journals.Goals as goal

pub returns : goal.returns
returns c = one_world c.one_run.ensures.end
