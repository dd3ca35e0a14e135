use Rattle.std.specs.Prelude.{◌≡◌, ◌+◌, ◌≤◌, vec_len, vec_capacity}
use Rattle.std.specs.Vec.Iter.{into_iter_len}
use Rattle.server_threads.specs.Inner.Jobs.{jobs_of}
use Rattle.server_threads.proofs.workers.give_turns.Given as goal

-- the jobs so far are those of the seats so far, and there is room for the others
abbrev pub invariant-loop-seat : goal.invariant-loop-seat
invariant-loop-seat g l = record {
  jobs : l.jobs.items ≡ jobs_of 0 l.fn.turns l.yielded;
  room : vec_len l.jobs + into_iter_len l.seat-iterator ≤ vec_capacity l.jobs;
}
