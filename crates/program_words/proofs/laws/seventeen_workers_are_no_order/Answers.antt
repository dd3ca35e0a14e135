use Rattle.std.proofs.Common.{refl}
use Rattle.clap.proofs.OnLiterals.{clap_on_literals}
use Rattle.program_words.proofs.laws.seventeen_workers_are_no_order.Goals as goal

pub returns : goal.returns
unfolding clap_on_literals
returns c = refl
