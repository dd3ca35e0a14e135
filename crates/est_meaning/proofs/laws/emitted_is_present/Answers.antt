use Rattle.est_meaning.proofs.EmittedIsPresent.{judged_decided, offered_decided, either_decided, local_decided}
use Rattle.est_meaning.proofs.laws.emitted_is_present.Goals as goal

pub returns : goal.returns
returns c =
    record { judged = judged_decided; offered = offered_decided; either = either_decided; within = local_decided }
