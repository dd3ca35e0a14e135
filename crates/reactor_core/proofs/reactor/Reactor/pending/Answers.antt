use Rattle.std.proofs.Common.{refl}
use Rattle.reactor_core.proofs.Steps.{running, runs_here}
use Rattle.reactor_core.proofs.reactor.Reactor.pending.Goals as goal

pub returns-clause-mask : goal.returns-clause-mask
returns-clause-mask c = (
  running c.self.inside.parts.loaded c.self.inside.parts.pending c.self.inside.parts.instants.items,
  rw (← c.self.view_is) (runs_here c.self.invariant.running),
  refl,
)

pub returns-clause-inputs : goal.returns-clause-inputs
returns-clause-inputs c = (
  running c.self.inside.parts.loaded c.self.inside.parts.pending c.self.inside.parts.instants.items,
  rw (← c.self.view_is) (runs_here c.self.invariant.running),
  c.self.invariant.running.kept.inputs,
)
