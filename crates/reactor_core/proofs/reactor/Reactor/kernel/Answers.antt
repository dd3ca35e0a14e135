use Rattle.reactor_core.proofs.Steps.{kernel_of}
use Rattle.reactor_core.proofs.reactor.Reactor.kernel.Goals as goal

pub returns : goal.returns
returns c = rw (← c.self.view_is) (kernel_of c.self.invariant.running)
