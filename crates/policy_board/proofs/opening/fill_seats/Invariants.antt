use Rattle.std.proofs.Common.{◌≡◌, ◌≤◌, ◌-◌, vec_capacity, vec_len}
use Rattle.std.specs.Prelude.{replicate}
use Rattle.policy_board.specs.SeatState.{new_seat}
use Rattle.policy_board.proofs.opening.fill_seats.Given as goal

abbrev pub invariant-loop-alloc : goal.invariant-loop-alloc
invariant-loop-alloc g l = record {
  items : l.seats.items ≡ replicate (vec_len l.seats) new_seat;
  few : vec_len l.seats ≤ l.initial.count;
  room : l.initial.count ≤ vec_capacity l.seats;
}

abbrev pub decreases-loop-alloc : goal.decreases-loop-alloc
decreases-loop-alloc g l = l.count - vec_len l.seats
