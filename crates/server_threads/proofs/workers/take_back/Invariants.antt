use Rattle.std.specs.Prelude.{◌≡◌, ◌+◌, ◌≤◌, true, All, map, vec_len, vec_capacity}
use Rattle.std.specs.Vec.Iter.{into_iter_len}
use Rattle.server_threads.proofs.workers.take_back.Given as goal

-- the seats so far are those of the workers so far, each of which took all its turns, if so; and there is room for the
-- others
abbrev pub invariant-loop-done : goal.invariant-loop-done
invariant-loop-done g l = record {
  seats : l.seats.items ≡ map (λ done. done.seat) l.yielded;
  all : l.all_taken ≡ true → All (λ done. done.taken ≡ l.fn.turns) l.yielded;
  room : vec_len l.seats + into_iter_len l.done-iterator ≤ vec_capacity l.seats;
}
