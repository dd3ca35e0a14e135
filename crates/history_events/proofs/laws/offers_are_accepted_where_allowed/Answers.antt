use Rattle.history_events.proofs.Accepting.{offer_law}
use Rattle.history_events.proofs.laws.offers_are_accepted_where_allowed.Goals as goal

pub returns : goal.returns
returns c = λ past m comes seat version slot session name running is limit runs input new.
    offer_law c.one_module.ensures past m seat version slot session name running comes is limit runs input new
