use Rattle.std.proofs.Common.{sym, ◌∙◌}
use Rattle.est_reduce.proofs.Answering.{one_fault, never_both}
use Rattle.est_reduce.proofs.laws.one_reduction.Goals as goal

pub returns-clause-kernel : goal.returns-clause-kernel
returns-clause-kernel c = λ interface p a b h k. (h.declares ∙ sym k.declares, h.term ∙ sym k.term)

pub returns-clause-fault : goal.returns-clause-fault
returns-clause-fault c = λ interface p a b h k. one_fault p a b h k

pub returns-clause-never_both : goal.returns-clause-never_both
returns-clause-never_both c = λ interface p a b h k. never_both interface p a b h k
