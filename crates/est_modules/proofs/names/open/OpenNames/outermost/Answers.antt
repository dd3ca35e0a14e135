use Rattle.std.proofs.Common.{◌∙◌}
use Rattle.std.specs.List.{slice_get}
use Rattle.est_modules.proofs.TellingNumbers.{passes_none}
use Rattle.est_modules.proofs.names.open.OpenNames.outermost.Goals as goal

pub returns-clause-hidden : goal.returns-clause-hidden
returns-clause-hidden c i = c.new.ensures i ∙ passes_none (slice_get c.args.table.now.names.items i)
