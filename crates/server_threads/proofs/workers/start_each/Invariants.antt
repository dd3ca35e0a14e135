use Rattle.std.specs.Prelude.{◌≡◌, ◌+◌, ◌≤◌, map, vec_len, vec_capacity}
use Rattle.std.specs.Vec.Iter.{into_iter_len}
use Rattle.server_threads.proofs.workers.start_each.Given as goal

-- the threads so far are those of the jobs so far, and there is room for the others
abbrev pub invariant-loop-job : goal.invariant-loop-job
invariant-loop-job g l = record {
  threads : map (λ thread. thread.promise.job.value) l.threads.items ≡ l.yielded;
  count : vec_len l.threads + into_iter_len l.job-iterator ≡ vec_len l.fn.jobs;
  room : vec_len l.fn.jobs ≤ vec_capacity l.threads;
}
