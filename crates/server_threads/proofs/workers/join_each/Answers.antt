use Rattle.std.proofs.Common.{rules}
use Rattle.server_threads.proofs.BackLemmas.{back_more}
use Rattle.server_threads.proofs.workers.join_each.Goals as goal

pub loop-thread-init : goal.loop-thread-init
loop-thread-init g c = record { back = rw c.requires.room.0 tt; room = search rules }

pub loop-thread-preserved : goal.loop-thread-preserved
loop-thread-preserved g c = record {
  back = rw c.push_reserved.ensures.items
      (back_more _ _ _ _ _ _ c.loop-thread.invariant.back c.join.ensures);
  room = search rules;
}
