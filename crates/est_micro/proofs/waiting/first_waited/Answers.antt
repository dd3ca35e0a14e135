use Rattle.est_micro.proofs.KernelNets.{root_fits, root_within}
use Rattle.est_micro.proofs.waiting.first_waited.Goals as goal

pub find_waited-requires-clause-fits : goal.find_waited-requires-clause-fits
find_waited-requires-clause-fits c = root_fits c.args.question.now.kernel.now _ c.root.ensures

pub find_waited-requires-clause-within : goal.find_waited-requires-clause-within
find_waited-requires-clause-within c =
    root_within c.args.net.now c.args.question.now.kernel.now _ _ c.requires.net c.root.ensures c.output_count.ensures
