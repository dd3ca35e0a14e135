use Rattle.std.proofs.Common.{◌∙◌}
use Rattle.lab_run.specs.Statuses.{is_told_by}
use Rattle.lab_run.proofs.StatusLemmas.{any_of_views}
use Rattle.lab_run.proofs.status.any_item_told_by.Goals as goal

pub returns : goal.returns
returns c = c.any_told_by.ensures ∙ any_of_views (is_told_by c.args.word.now) c.args.verdicts.now
