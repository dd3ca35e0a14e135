use Rattle.est_kernel.specs.Bits.{bits}
use Rattle.est_explore.proofs.ReadLemmas.{inner_read, outer_read, single_has}
use Rattle.est_explore.proofs.reads.read_of.Goals as goal

pub returns-in-Interface : goal.returns-in-Interface
returns-in-Interface c = rw c.in-Interface.is (outer_read c.in-Interface.signal.index (bits c.single.result)
    (single_has c.single.result c.in-Interface.signal.index c.single.ensures))

pub returns-in-Local : goal.returns-in-Local
returns-in-Local c = rw c.in-Local.is (inner_read c.in-Local.field-0.index (bits 0))
