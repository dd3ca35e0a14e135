use Rattle.std.proofs.Common.{◌≡◌}
use Rattle.policy_board.proofs.publisher.add_entry.Given as goal

abbrev pub invariant-loop : goal.invariant-loop
invariant-loop g l = l.prefix ≡ l.initial.prefix
