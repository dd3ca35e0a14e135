use Rattle.std.proofs.Common.{◌∙◌}
use Rattle.lab_run.specs.Statuses.{is_told_by}
use Rattle.lab_run.proofs.StatusLemmas.{all_of_views}
use Rattle.lab_run.proofs.status.all_items_told_by.Goals as goal

pub returns : goal.returns
returns c = c.all_told_by.ensures ∙ all_of_views (is_told_by c.args.word.now) c.args.verdicts.now
