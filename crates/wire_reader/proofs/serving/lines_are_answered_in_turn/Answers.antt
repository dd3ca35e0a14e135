use Rattle.wire_reader.proofs.Cutting.{lines_cut}
use Rattle.wire_reader.proofs.serving.lines_are_answered_in_turn.Goals as goal

pub returns : goal.returns
returns g c = lines_cut g.A.Answerer.tells
