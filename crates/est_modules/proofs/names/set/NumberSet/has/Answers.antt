use Rattle.std.proofs.Common.{◌∙◌, ◌%◌, ap}
use Rattle.est_kernel.specs.Bits.{bits}
use Rattle.est_modules.specs.NumberSets.{numbers_of}
use Rattle.est_modules.proofs.names.set.NumberSet.has.Goals as goal

pub returns : goal.returns
unfolding numbers_of
returns c = c.has.ensures ∙ ap (λ w. bits w (c.args.number % 64)) c.word.ensures
