use Rattle.history_events.proofs.Accepting.{step_law}
use Rattle.history_events.proofs.laws.steps_are_accepted_where_allowed.Goals as goal

pub returns : goal.returns
returns c = λ past m comes seat version slot session running is limit runs.
    step_law c.one_module.ensures past m seat version slot session running comes is limit runs
