use Rattle.reactor_core.proofs.Steps.{left_of}
use Rattle.reactor_core.proofs.reactor.Reactor.state.Goals as goal

pub returns : goal.returns
returns c = rw (← c.self.view_is) (left_of c.self.invariant.running)
