use Rattle.std.proofs.Common.{refl}
use Rattle.clap.proofs.OnLiterals.{clap_on_literals}
use Rattle.program_words.proofs.laws.serve_has_four_workers.Goals as goal

pub returns : goal.returns
unfolding clap_on_literals
returns c path at = (refl, (_, refl, record { path = at; workers = refl; connections = refl }))
