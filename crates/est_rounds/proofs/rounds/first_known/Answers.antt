use Rattle.est_rounds.proofs.Known.{first_known_is}
use Rattle.est_rounds.proofs.rounds.first_known.Goals as goal

pub returns : goal.returns
returns c = first_known_is c.args.judged _ _ _ c.difference.ensures c.union.ensures
