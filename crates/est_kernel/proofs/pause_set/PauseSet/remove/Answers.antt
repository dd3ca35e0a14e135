use Rattle.std.proofs.Common.{arith}
use Rattle.est_kernel.specs.Pauses.{pauses_of}
use Rattle.est_kernel.proofs.PauseSets.{word_same, word_others}
use Rattle.est_kernel.proofs.pause_set.PauseSet.remove.Goals as goal

pub returns-clause-same : goal.returns-clause-same
unfolding pauses_of
returns-clause-same c = word_same c.args.self.now.words c.args.n.index c.without.result _
    (omega arith) c.without.ensures.same

pub returns-clause-others : goal.returns-clause-others
unfolding pauses_of
returns-clause-others c i d =
    word_others c.args.self.now.words c.args.n.index c.without.result (omega arith) c.without.ensures.other i d
