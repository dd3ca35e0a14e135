use Rattle.wire_reader.proofs.NextLine.{one_next_line, next_or_too_long}
use Rattle.wire_reader.proofs.lines.bytes_have_one_next_line.Goals as goal

pub returns-clause-one : goal.returns-clause-one
returns-clause-one c = one_next_line

pub returns-clause-short : goal.returns-clause-short
returns-clause-short c = next_or_too_long
