use Rattle.std.proofs.Common.{List, Err, refl, ap}
use Rattle.reactor_core.specs.declared.entry.SlotEntry.{SlotEntry}
use Rattle.reactor_core.proofs.AnswerLemmas.{entry_passes, entry_refused}
use Rattle.reactor_core.proofs.reactor.instant.Settled.commit.Goals as goal

pub returns-in-Ok : goal.returns-in-Ok
returns-in-Ok c =
    let adds = c.in-Ok.ensures.adds in
    rw (← c.self.view_is)
    (entry_passes c.self.inside.parts.journal adds.1.room (c.advance.new.self.journal, refl, adds))

pub returns-in-Err : goal.returns-in-Err
returns-in-Err c =
    let refused = c.in-Err.ensures.adds in
    rw (← c.self.view_is)
    (entry_refused c.self.inside.parts.journal _ refused.0
    (ap (λ (journal : List SlotEntry). Err (c.in-Err.refusal, journal)) refused.1))
