use Rattle.std.proofs.Common.{ap, refl}
use Rattle.std.specs.Prelude.{is_some}
use Rattle.reactor_core.proofs.AnswerLemmas.{entry_refused}
use Rattle.reactor_core.proofs.Steps.{discards}
use Rattle.reactor_core.proofs.reactor.Reactor.discard.Goals as goal

pub invariant_of-self : goal.invariant_of-self
invariant_of-self c = record {
  running = rw c.in-Ok.ensures.1 (discards c.self.invariant.running c.args.stamp);
  engine = c.self.invariant.engine;
}

pub returns-in-Ok-clause-loaded : goal.returns-in-Ok-clause-loaded
returns-in-Ok-clause-loaded c = rw c.in-Ok.ensures.1 (ap is_some (discards c.self.invariant.running c.args.stamp).last)

pub returns-in-Err-clause-answer : goal.returns-in-Err-clause-answer
returns-in-Err-clause-answer c =
    rw (← c.self.view_is)
    (entry_refused c.self.inside.parts.journal _ c.in-Err.ensures.0 (refl, c.in-Err.ensures.1))
