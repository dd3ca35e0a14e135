use Rattle.std.proofs.Common.{refl}
use Rattle.clap.proofs.OnLiterals.{clap_on_literals}
use Rattle.program_words.proofs.laws.script_has_no_flags.Goals as goal

pub returns : goal.returns
unfolding clap_on_literals
returns c = (refl, (_, refl, refl, refl))
