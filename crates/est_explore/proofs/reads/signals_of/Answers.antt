use Rattle.est_kernel.specs.Bits.{bits}
use Rattle.est_explore.proofs.ReadLemmas.{tells}
use Rattle.est_explore.proofs.reads.signals_of.Goals as goal

pub returns : goal.returns
returns c = tells c.args.test.now (bits c.read_by.result) c.read_by.ensures
