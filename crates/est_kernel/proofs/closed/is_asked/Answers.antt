use Rattle.est_kernel.proofs.Tests.{asked_told}
use Rattle.est_kernel.specs.View.{query_of}
use Rattle.est_kernel.proofs.closed.is_asked.Goals as goal

pub returns : goal.returns
returns c l counts = asked_told c.args.interface.now l (query_of c.args.test.now) c.asks_visible.result
    (c.asks_visible.ensures l counts)
