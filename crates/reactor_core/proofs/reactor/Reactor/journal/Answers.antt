use Rattle.std.proofs.Common.{ap}
use Rattle.std.specs.Prelude.{is_some}
use Rattle.reactor_core.proofs.reactor.Reactor.journal.Goals as goal

pub returns-clause-loaded : goal.returns-clause-loaded
returns-clause-loaded c = rw (← c.self.view_is) (ap is_some c.self.invariant.running.last)
