use Rattle.std.proofs.Common.{◌≡◌, length}
use Rattle.wire_reader.specs.Writing.{WritesUpTo}
use Rattle.wire_reader.proofs.replies.put.Given as goal

abbrev pub invariant-loop-rest : goal.invariant-loop-rest
invariant-loop-rest g l = record {
  written : WritesUpTo (g.W.Write.contents l.fn.writer.device) (g.W.Write.contents l.writer.device) l.text l.rest;
  unfailed : l.writer.faults ≡ l.fn.writer.faults;
}

abbrev pub decreases-loop-rest : goal.decreases-loop-rest
decreases-loop-rest g l = length l.rest
