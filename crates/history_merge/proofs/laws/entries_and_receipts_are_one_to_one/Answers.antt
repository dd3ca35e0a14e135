use Rattle.history_merge.proofs.Parts.{all_once}
use Rattle.history_merge.proofs.laws.entries_and_receipts_are_one_to_one.Goals as goal

pub returns : goal.returns
returns c = all_once
