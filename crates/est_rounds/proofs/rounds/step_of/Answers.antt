use Rattle.est_meaning.proofs.SteppingLemmas.{idle}
use Rattle.est_rounds.proofs.rounds.step_of.Goals as goal

pub returns-in-Done-clause-some : goal.returns-in-Done-clause-some
returns-in-Done-clause-some c =
    rw (c.in-Done.is, c.quiet.ensures.signals, c.quiet.ensures.completion) (idle _ _ _ c.requires.clear)
