use Rattle.est_meaning.specs.States.{IsState}
use Rattle.est_micro.specs.Engine.{IsNetOf}
use Rattle.benches.proofs.tables.show_tables.Given as goal

abbrev pub invariant-loop-number : goal.invariant-loop-number
invariant-loop-number g l = IsNetOf l.engine.net l.case.kernel × IsState l.case.kernel.root l.state
