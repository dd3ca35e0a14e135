use Rattle.std.proofs.Common.{List, Err, ap}
use Rattle.reactor_core.specs.declared.entry.SlotEntry.{SlotEntry}
use Rattle.reactor_core.proofs.AnswerLemmas.{entry_refused}
use Rattle.reactor_core.proofs.Steps.{nothing_runs}
use Rattle.reactor_core.proofs.reactor.Reactor.unload.Goals as goal

pub returns-in-Ok-clause-empty : goal.returns-in-Ok-clause-empty
returns-in-Ok-clause-empty c = rw c.in-Ok.ensures.1 (nothing_runs c.self.inside.parts.journal c.args.stamp)

pub returns-in-Err-clause-answer : goal.returns-in-Err-clause-answer
returns-in-Err-clause-answer c =
    rw (← c.self.view_is)
    (entry_refused c.self.inside.parts.journal _ c.in-Err.ensures.0
    (ap (λ (journal : List SlotEntry). Err (c.in-Err.refusal, journal)) c.in-Err.ensures.1))
