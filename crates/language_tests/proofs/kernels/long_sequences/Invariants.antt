use Rattle.est_meaning.specs.States.{IsState}
use Rattle.language_tests.proofs.kernels.long_sequences.Given as goal

abbrev pub invariant-loop : goal.invariant-loop
invariant-loop g l = IsState l.kernel.root l.state
