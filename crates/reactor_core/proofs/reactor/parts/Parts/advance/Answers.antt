use Rattle.reactor_core.proofs.Steps.{advances, added}
use Rattle.reactor_core.proofs.reactor.parts.Parts.advance.Goals as goal

pub returns-in-Ok-clause-running : goal.returns-in-Ok-clause-running
returns-in-Ok-clause-running c =
    record {
      running = rw (c.in-Ok.ensures.1, c.in-Ok.ensures.2)
          (advances c.requires.running.running c.args.stamp c.args.outcome.outputs c.args.outcome.next c.requires.next);
      engine = c.requires.running.engine;
    }

pub returns-in-Ok-clause-adds : goal.returns-in-Ok-clause-adds
returns-in-Ok-clause-adds c =
    added c.requires.running.running c.append_step.new.journal c.args.stamp c.args.outcome.outputs c.args.outcome.next
    c.requires.next
    c.in-Ok.ensures.0 c.in-Ok.ensures.1
