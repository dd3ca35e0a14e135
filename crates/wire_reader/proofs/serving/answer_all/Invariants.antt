use Rattle.std.proofs.Common.{◌≡◌}
use Rattle.std.specs.Io.KnownBytes.{prepend_known}
use Rattle.wire_reader.specs.Readers.{held_bytes, weight}
use Rattle.wire_reader.specs.Inner.Turns.{IsSound}
use Rattle.wire_reader.specs.Replies.{waiting_bytes}
use Rattle.wire_reader.proofs.Running.{Reaches}
use Rattle.wire_reader.proofs.serving.answer_all.Given as goal

abbrev pub invariant-loop-why : goal.invariant-loop-why
invariant-loop-why g l = record {
  sound : IsSound l.lines.ending (held_bytes l.lines) (g.R.Read.remaining l.reader.device);
  reaches : Reaches g.A.Answerer.tells
      (record {
        ahead = prepend_known (held_bytes l.fn.lines) (g.R.Read.remaining l.fn.reader.device);
        desk = (l.fn.answerer, l.fn.desk);
      })
      (record {
        ahead = prepend_known (held_bytes l.lines) (g.R.Read.remaining l.reader.device);
        desk = (l.answerer, l.desk);
      })
      (g.W.Write.contents l.fn.writer.device) (g.W.Write.contents l.writer.device) (waiting_bytes l.fn.replies)
      (waiting_bytes l.replies);
  unfailed_reader : l.reader.faults ≡ l.fn.reader.faults;
  unfailed_writer : l.writer.faults ≡ l.fn.writer.faults;
}

abbrev pub decreases-loop-why : goal.decreases-loop-why
decreases-loop-why g l = weight l.reader.left l.lines
