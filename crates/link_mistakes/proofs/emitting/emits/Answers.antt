use Rattle.std.proofs.Common.{sym}
use Rattle.est_checks.specs.Emissions.{emitted_of}
use Rattle.link_mistakes.proofs.emitting.emits.Goals as goal

pub returns : goal.returns
returns c = record {
  emitted = emitted_of c.in_ok-table.table;
  emissions = c.in_ok-table.ensures;
  is = sym c.emits.ensures;
}
