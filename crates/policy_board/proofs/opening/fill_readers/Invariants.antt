use Rattle.std.proofs.Common.{◌≡◌, ◌≤◌, ◌-◌, vec_capacity, vec_len}
use Rattle.std.specs.Prelude.{replicate}
use Rattle.rbac_policy.specs.Opening.{opening_entries}
use Rattle.policy_board.proofs.opening.fill_readers.Given as goal

abbrev pub invariant-loop-reader : goal.invariant-loop-reader
invariant-loop-reader g l = record {
  items : l.readers.items ≡ replicate (vec_len l.readers) opening_entries;
  few : vec_len l.readers ≤ l.initial.count;
  room : l.initial.count ≤ vec_capacity l.readers;
}

abbrev pub decreases-loop-reader : goal.decreases-loop-reader
decreases-loop-reader g l = l.count - vec_len l.readers
