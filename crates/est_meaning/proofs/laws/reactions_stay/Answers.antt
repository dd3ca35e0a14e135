use Rattle.est_meaning.proofs.GivesGrows.{gives_grows}
use Rattle.est_meaning.proofs.laws.reactions_stay.Goals as goal

pub returns : goal.returns
returns c = gives_grows
