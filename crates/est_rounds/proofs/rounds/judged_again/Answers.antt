use Rattle.est_rounds.proofs.Known.{judged_again_is}
use Rattle.est_rounds.proofs.rounds.judged_again.Goals as goal

pub returns : goal.returns
returns c = judged_again_is c.args.judged.signals c.args.before c.args.now _ _ _ c.difference.ensures
    c.intersection.ensures
    c.union.ensures
