use Rattle.history_events.proofs.Looking.{look_law}
use Rattle.history_events.proofs.Showing.{display_law}
use Rattle.history_events.proofs.laws.looks_show_the_reaction.Goals as goal

pub returns-clause-there : goal.returns-clause-there
returns-clause-there c = λ past m comes seat version slot session n is limit. look_law past m seat version slot session
    n comes is limit

pub returns-clause-shown : goal.returns-clause-shown
returns-clause-shown c = λ past m comes seat version slot session n is accepted.
    display_law c.one_module.ensures past m seat version slot session n comes is accepted
