use Rattle.est_syntax.proofs.Unique.{one_library}
use Rattle.est_syntax.proofs.laws.one_library.Goals as goal

pub returns : goal.returns
returns c = one_library
