use Rattle.std.proofs.Common.{sym}
use Rattle.reactor_core.proofs.Steps.{instant_shown, no_instant}
use Rattle.reactor_core.proofs.reactor.Reactor.shown.Goals as goal

pub returns-in-Some : goal.returns-in-Some
returns-in-Some c =
    rw (← c.self.view_is)
    (instant_shown c.self.invariant.running c.args.n c.args.mask c.in-Some.instant
    (rw (sym c.as_slice.ensures.value) c.in-Some.ensures))

pub returns-in-None : goal.returns-in-None
returns-in-None c =
    rw (← c.self.view_is)
    (no_instant c.self.invariant.running c.args.n c.args.mask (rw (sym c.as_slice.ensures.value) c.in-None.ensures))
