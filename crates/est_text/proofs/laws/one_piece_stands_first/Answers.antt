use Rattle.est_text.proofs.OneCut.{one_piece}
use Rattle.est_text.proofs.laws.one_piece_stands_first.Goals as goal

pub returns : goal.returns
returns c = one_piece
