use Rattle.reactor_core.proofs.OneLoad.{same_given}
use Rattle.reactor_core.proofs.OneFault.{one_load_fault, given_or_fault}
use Rattle.reactor_core.proofs.laws.one_load.Goals as goal

pub returns-clause-given : goal.returns-clause-given
returns-clause-given c = same_given c.one_cut.ensures.tokens c.one_flat.ensures

pub returns-clause-fault : goal.returns-clause-fault
returns-clause-fault c =
    one_load_fault c.one_cut.ensures.tokens
    (record { same = c.one_fault.ensures.same; no_tokens = c.one_fault.ensures.no_tokens }) c.one_flat.ensures

pub returns-clause-never_both : goal.returns-clause-never_both
returns-clause-never_both c =
    given_or_fault c.one_cut.ensures.tokens
    (record { same = c.one_fault.ensures.same; no_tokens = c.one_fault.ensures.no_tokens }) c.one_flat.ensures
