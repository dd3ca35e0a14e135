use Rattle.est_kernel.proofs.Tests.{joined_seen}
use Rattle.est_kernel.proofs.statement.Test.joined.Goals as goal

pub returns : goal.returns
returns c = rw (← c.in_ok-new.ensures.ok, ← c.in_ok-new-2.ensures.ok)
    (joined_seen c.args.connective
    (record { first = c.in_ok-new.field-0; second = c.in_ok-new-2.field-0; later = c.args.later }))
