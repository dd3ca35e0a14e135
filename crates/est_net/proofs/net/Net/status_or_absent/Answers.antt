use Rattle.std.proofs.Common.{sym, arith}
use Rattle.std.proofs.lemmas.List.{get_or_past}
use Rattle.est_meaning.specs.declared.status.Status.TheVariants.{Absent}
use Rattle.est_net.proofs.net.Net.status_or_absent.Goals as goal

pub returns-else-cell-len : goal.returns-else-cell-len
returns-else-cell-len c = sym (get_or_past c.args.self.now.cells.items c.args.cell Absent (omega arith))
