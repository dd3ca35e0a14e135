use Rattle.history_events.proofs.Denying.{denial_law}
use Rattle.history_events.proofs.laws.denials_name_the_first_reason.Goals as goal

pub returns : goal.returns
returns c = denial_law
