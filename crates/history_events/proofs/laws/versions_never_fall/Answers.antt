use Rattle.history_events.proofs.Rising.{version_law}
use Rattle.history_events.proofs.laws.versions_never_fall.Goals as goal

pub returns : goal.returns
returns c = version_law
