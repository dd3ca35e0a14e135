use Rattle.std.proofs.Common.{refl}
use Rattle.reactor_core.proofs.Steps.{running, runs_here}
use Rattle.reactor_core.proofs.AnswerLemmas.{open_refused, open_passes}
use Rattle.reactor_core.proofs.reactor.Reactor.open.Goals as goal

pub returns-in-Ok : goal.returns-in-Ok
returns-in-Ok c =
    let before = c.self.inside.parts in
    rw (c.of.ensures, ← c.self.view_is)
    (open_passes before.journal before.loaded (running before.loaded before.pending before.instants.items)
    (runs_here c.self.invariant.running) refl c.in-Ok.ensures)

pub returns-in-Err : goal.returns-in-Err
returns-in-Err c =
    let before = c.self.inside.parts in
    rw (← c.self.view_is)
    (open_refused before.journal before.loaded (running before.loaded before.pending before.instants.items)
    (runs_here c.self.invariant.running) refl c.in-Err.refusal c.in-Err.ensures)
