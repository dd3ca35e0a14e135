use Rattle.std.proofs.Common.{arith}
use Rattle.server_threads.specs.Turns.{none_yet}
use Rattle.server_threads.proofs.workers.begin.Goals as goal

pub returns-else-deref : goal.returns-else-deref
returns-else-deref g c = record { taken = none_yet _; most = omega arith }
