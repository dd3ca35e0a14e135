use Rattle.est_meaning.proofs.RoundsComeToRest.{learns, settles, judged_within}
use Rattle.est_meaning.proofs.laws.rounds_come_to_rest.Goals as goal

pub returns : goal.returns
returns c = record { learns = learns; settles = settles; judged = judged_within }
