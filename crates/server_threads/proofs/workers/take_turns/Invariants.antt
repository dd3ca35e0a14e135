use Rattle.server_threads.specs.Turns.{Turns}
use Rattle.server_threads.proofs.workers.take_turns.Given as goal

-- the seat is as the turns so far left it
abbrev pub invariant-loop-taken : goal.invariant-loop-taken
invariant-loop-taken g l = Turns (g.W.Work.turn l.fn.job.worker) l.taken l.fn.job.seat l.seat
