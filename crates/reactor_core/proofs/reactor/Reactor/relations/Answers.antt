use Rattle.std.proofs.Common.{refl}
use Rattle.reactor_core.proofs.Steps.{running, runs_here}
use Rattle.reactor_core.proofs.reactor.Reactor.relations.Goals as goal

pub returns : goal.returns
returns c = (
  running c.self.inside.parts.loaded c.self.inside.parts.pending c.self.inside.parts.instants.items,
  rw (← c.self.view_is) (runs_here c.self.invariant.running),
  refl,
)
