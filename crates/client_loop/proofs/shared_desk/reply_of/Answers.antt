use Rattle.std.proofs.Common.{subst}
use Rattle.policy_board.specs.PolicyCommands.{IsPublished}
use Rattle.client_loop.proofs.shared_desk.reply_of.Goals as goal

pub returns-in-Ok-clause-accepted : goal.returns-in-Ok-clause-accepted
returns-in-Ok-clause-accepted g c entry old new p =
    c.reply_to.ensures entry old new (subst (λ answer. IsPublished entry old answer new) c.in-Ok.is p)
