use Rattle.slot_table.proofs.Legality.{command_legal}
use Rattle.slot_table.proofs.laws.versions_never_fall.Goals as goal

pub returns : goal.returns
returns c = command_legal
