use Rattle.std.specs.Prelude.{◌+◌, ◌≤◌, map, vec_len, vec_capacity}
use Rattle.std.specs.List.{AllZip}
use Rattle.std.specs.Vec.Iter.{into_iter_len}
use Rattle.server_threads.specs.Inner.Jobs.{HasWorked}
use Rattle.server_threads.proofs.workers.join_each.Given as goal

-- the threads so far have ended as their jobs ask, and there is room for the others
abbrev pub invariant-loop-thread : goal.invariant-loop-thread
invariant-loop-thread g l = record {
  back : AllZip (λ job done. HasWorked g.W.Work.turn job done)
      (map (λ thread. thread.promise.job.value) l.yielded) l.ended.items;
  room : vec_len l.ended + into_iter_len l.thread-iterator ≤ vec_capacity l.ended;
}
