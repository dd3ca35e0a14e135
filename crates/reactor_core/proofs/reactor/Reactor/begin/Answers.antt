use Rattle.reactor_core.proofs.Steps.{begins}
use Rattle.reactor_core.proofs.reactor.Reactor.begin.Goals as goal

pub invariant_of-result : goal.invariant_of-result
invariant_of-result c =
    record {
      running = rw (c.in-Ok.ensures.1, c.new.ensures.items)
          (begins c.args.journal c.args.stamp c.args.load c.args.loaded c.requires.given c.args.loaded.over_inputs);
      engine = c.requires.engine;
    }
