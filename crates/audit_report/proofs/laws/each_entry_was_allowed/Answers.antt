use Rattle.audit_report.proofs.laws.each_entry_was_allowed.Goals as goal

pub returns : goal.returns
returns c = λ entries slots number at journal entry none there is.
    c.journals_are_legal.ensures.allowed entries number at journal entry (none.journals number journal there) is
