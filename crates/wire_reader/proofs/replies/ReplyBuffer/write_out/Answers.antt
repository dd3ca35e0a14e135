use Rattle.std.proofs.Common.{[]}
use Rattle.std.proofs.KnownBytes.{Appends-kept}
use Rattle.wire_reader.proofs.Written.{all_written}
use Rattle.wire_reader.proofs.replies.ReplyBuffer.write_out.Goals as goal

pub returns-then-not-flush-clause-err : goal.returns-then-not-flush-clause-err
returns-then-not-flush-clause-err g c = (
  [],
  all_written _ _ _
      (Appends-kept _ _ _ _ (rw c.deref.ensures.value at c.in-Ok.ensures.ok) c.flush.ensures.bytes),
)
