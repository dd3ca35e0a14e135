use Rattle.history_events.proofs.Changes.{change_law}
use Rattle.history_events.proofs.laws.changes_only_what_is_allowed.Goals as goal

pub returns : goal.returns
returns c = change_law
