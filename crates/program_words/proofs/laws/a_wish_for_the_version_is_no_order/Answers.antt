use Rattle.std.proofs.Common.{refl}
use Rattle.clap.proofs.OnLiterals.{clap_on_literals}
use Rattle.program_words.proofs.laws.a_wish_for_the_version_is_no_order.Goals as goal

pub returns : goal.returns
unfolding clap_on_literals
returns c = refl
