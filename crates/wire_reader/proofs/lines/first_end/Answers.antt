use Rattle.wire_reader.proofs.Places.{first_found}
use Rattle.wire_reader.proofs.lines.first_end.Goals as goal

pub returns : goal.returns
returns c = first_found c.args.bytes.now c.memchr.result c.memchr.ensures
