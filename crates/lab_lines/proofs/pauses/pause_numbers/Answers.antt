use Rattle.std.proofs.Common.{◌∙◌, sym}
use Rattle.lab_lines.proofs.PauseLemmas.{none_below}
use Rattle.lab_lines.proofs.pauses.pause_numbers.Goals as goal

pub add_pauses_below-requires-clause-before : goal.add_pauses_below-requires-clause-before
add_pauses_below-requires-clause-before c = c.new-numbers.ensures.items ∙ sym (none_below c.args.paused.now)
