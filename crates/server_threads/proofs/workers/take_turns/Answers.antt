use Rattle.server_threads.specs.Turns.{none_yet, one_more}
use Rattle.server_threads.proofs.workers.take_turns.Goals as goal

pub loop-taken-init : goal.loop-taken-init
loop-taken-init g c = none_yet _

pub loop-taken-preserved : goal.loop-taken-preserved
loop-taken-preserved g c = one_more _ _ _ _ c.loop-taken.invariant c.in-Taken.ensures
