use Rattle.std.proofs.Common.{refl}
use Rattle.est_meaning.specs.States.{state_term}
use Rattle.reactor_core.proofs.Steps.{outcome, no_outcome}
use Rattle.reactor_core.proofs.reactor.instant.Instant.settle.Goals as goal

pub returns-in-Ok : goal.returns-in-Ok
returns-in-Ok c =
    let parts = c.reactor.inside.parts in
    let ok = c.in-Ok.ensures.ok in
    rw (← c.self.view_is, ← c.reactor.view_is) (
      refl,
      (
        state_term parts.loaded.kernel.root c.in-Ok.outcome.next,
        outcome c.reactor.invariant.running c.in-Ok.outcome.outputs c.in-Ok.outcome.next
            (record { fits = ok.next; reacts = ok.reacts }),
      ),
    )

pub returns-in-Err : goal.returns-in-Err
returns-in-Err c = rw (← c.self.view_is, ← c.reactor.view_is)
    (no_outcome c.reactor.invariant.running c.in-Err.stuck c.in-Err.ensures.stuck, refl)
