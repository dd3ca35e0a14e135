use Rattle.est_text.proofs.Fronts.{line_found}
use Rattle.est_text.proofs.piece.line.Goals as goal

pub returns : goal.returns
returns c = line_found c.args.rest.now c.line_len.result c.requires.percent c.requires.some c.requires.brace
    c.line_len.ensures.within c.line_len.ensures.same c.line_len.ensures.stops
