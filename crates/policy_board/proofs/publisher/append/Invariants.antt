use Rattle.std.proofs.Common.{◌≡◌, drop}
use Rattle.policy_board.proofs.publisher.append.Given as goal

abbrev pub invariant-loop : goal.invariant-loop
invariant-loop g l = (l.writer.desk ≡ l.initial.writer.desk)
    × (drop l.writer.behind l.writer.log.items ≡ drop l.initial.writer.behind l.initial.writer.log.items)
    × (l.publication ≡ l.initial.publication)
