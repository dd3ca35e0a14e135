use Rattle.est_text.proofs.OneCut.{cuts_are_one, tokens_are_one}
use Rattle.est_text.proofs.laws.one_cut.Goals as goal

pub returns-clause-pieces : goal.returns-clause-pieces
returns-clause-pieces c = cuts_are_one

pub returns-clause-tokens : goal.returns-clause-tokens
returns-clause-tokens c = tokens_are_one
