use Rattle.wire_reader.proofs.Turning.{ok_next_is}
use Rattle.wire_reader.proofs.serving.take_line.Goals as goal

pub returns-clause-next : goal.returns-clause-next
returns-clause-next g c =
    ok_next_is _ c.args.lines.now.ending _ _ _ _ _ _ c.requires c.write_then_read_line.ensures.gives
    c.write_then_read_line.ensures.again
