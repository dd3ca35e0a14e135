use Rattle.est_link.proofs.Alike.{one_flat}
use Rattle.est_link.proofs.Answering.{one_fault, never_both}
use Rattle.est_link.specs.FlatModules.{flat_of}
use Rattle.est_modules.specs.Modules.{programs_of}
use Rattle.est_link.proofs.laws.one_link.Goals as goal

pub returns-clause-flat : goal.returns-clause-flat
returns-clause-flat c = λ library main a b h k. one_flat (programs_of library) main (flat_of a) (flat_of b) h.flat
    k.flat

pub returns-clause-fault : goal.returns-clause-fault
returns-clause-fault c = λ library main a b h k. one_fault (programs_of library) main a b h.first k.first

pub returns-clause-never_both : goal.returns-clause-never_both
returns-clause-never_both c = λ library main a b h k. never_both (programs_of library) main b h.first k.first
