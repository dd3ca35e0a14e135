use Rattle.est_meaning.proofs.SafeLoopLemmas.{safe_after}
use Rattle.est_meaning.proofs.OneReactionAtMost.{unique, one_reaction}
use Rattle.est_meaning.proofs.laws.one_reaction_at_most.Goals as goal

pub returns : goal.returns
returns c = record { same = unique; same_reaction = one_reaction; safe_again = safe_after }
