use Rattle.est_meaning.specs.States.{IsState}
use Rattle.est_micro.specs.Engine.{IsNetOf}
use Rattle.language_tests.proofs.literature.loads.expect_instants.Given as goal

abbrev pub invariant-loop-instant : goal.invariant-loop-instant
invariant-loop-instant g l = IsState l.kernel.root l.state × IsNetOf l.engine.net l.kernel
