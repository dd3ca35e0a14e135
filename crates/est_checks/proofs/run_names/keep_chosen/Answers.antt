use Rattle.std.proofs.Common.{◌∙◌}
use Rattle.std.proofs.lemmas.Result.{on_ok_weaker}
use Rattle.est_checks.proofs.run_names.keep_chosen.Goals as goal

pub returns-clause-kept : goal.returns-clause-kept
returns-clause-kept g c =
    on_ok_weaker c.keep.result
    (λ f. f (g.C.Choice.chosen c.args.choice.now) c.requires.kept (c.deref.ensures.value ∙ c.in_ok-names.ensures))
    c.keep.ensures.kept
