use Rattle.std.proofs.Common.{◌∙◌}
use Rattle.wire_reader.proofs.Written.{written_more}
use Rattle.wire_reader.proofs.replies.put.Goals as goal

pub loop-rest-preserved : goal.loop-rest-preserved
loop-rest-preserved g c = record {
  written = rw c.split_at.ensures.back
      (written_more _ _ _ _ _ c.in-Some.count c.loop-rest.invariant.written c.in-Some.ensures.bytes);
  unfailed = c.in-Some.ensures.took ∙ c.loop-rest.invariant.unfailed;
}
