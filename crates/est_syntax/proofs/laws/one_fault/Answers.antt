use Rattle.est_syntax.proofs.OneFault.{one_syntax_fault, one_too_deep, one_kind, no_syntax_fault, not_too_deep}
use Rattle.est_syntax.proofs.laws.one_fault.Goals as goal

pub returns-clause-syntax : goal.returns-clause-syntax
returns-clause-syntax c = one_syntax_fault

pub returns-clause-too_deep : goal.returns-clause-too_deep
returns-clause-too_deep c = one_too_deep

pub returns-clause-one_kind : goal.returns-clause-one_kind
returns-clause-one_kind c = one_kind

pub returns-clause-no_fault : goal.returns-clause-no_fault
returns-clause-no_fault c = no_syntax_fault

pub returns-clause-fits : goal.returns-clause-fits
returns-clause-fits c = not_too_deep
