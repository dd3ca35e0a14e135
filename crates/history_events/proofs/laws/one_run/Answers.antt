use Rattle.history_events.proofs.OneRun.{one_moment, one_run, one_end}
use Rattle.history_events.proofs.laws.one_run.Goals as goal

pub returns-clause-moment : goal.returns-clause-moment
returns-clause-moment c = one_moment c.one_module.ensures
    (record { fault = c.one_load.ensures.fault; never_both = c.one_load.ensures.never_both })

pub returns-clause-run : goal.returns-clause-run
returns-clause-run c =
    one_run c.one_module.ensures
    (record { fault = c.one_load.ensures.fault; never_both = c.one_load.ensures.never_both })

pub returns-clause-end : goal.returns-clause-end
returns-clause-end c =
    one_end c.one_module.ensures
    (record { fault = c.one_load.ensures.fault; never_both = c.one_load.ensures.never_both })
