use Rattle.est_meaning.specs.States.{IsState}
use Rattle.benches.proofs.alone.sum_of.Given as goal

-- the engine is for the kernel, and the state is one of it
abbrev pub invariant-loop-n : goal.invariant-loop-n
invariant-loop-n g l = g.E.Engine.is_for l.engine l.case.kernel × IsState l.case.kernel.root l.state
