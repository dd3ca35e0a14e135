use Rattle.std.proofs.Common.{◌∙◌, ap}
use Rattle.est_kernel.specs.Bits.{bits}
use Rattle.est_kernel.specs.Interfaces.{offerable}
use Rattle.est_micro.proofs.PartReactions.{unasked_is}
use Rattle.est_micro.proofs.part_reactions.unasked_inputs.Goals as goal

pub returns : goal.returns
returns c =
    unasked_is c.args.kernel.now.interface (bits c.difference.result) _ (bits c.args.asked) c.difference.ensures
    (c.offerable.ensures ∙ ap offerable c.interface.ensures)
