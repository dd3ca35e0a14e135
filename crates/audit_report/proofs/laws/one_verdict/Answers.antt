use Rattle.audit_report.proofs.Uniqueness.{one_finding, only_memory}
use Rattle.audit_report.proofs.laws.one_verdict.Goals as goal

pub returns-clause-none : goal.returns-clause-none
returns-clause-none c = λ entries slots finding. only_memory c.one_slot_answer.ensures entries slots finding

pub returns-clause-one : goal.returns-clause-one
returns-clause-one c = λ entries slots finding other first second enough too.
    one_finding c.one_slot_answer.ensures entries slots finding other enough too first second
