use Rattle.std.proofs.Common.{◌∙◌, sym, arith}
use Rattle.est_kernel.specs.Pauses.{pauses_of}
use Rattle.est_kernel.proofs.PauseSets.{some_here, some_in_word, some_later}
use Rattle.est_kernel.proofs.pause_set.PauseSet.+has_some.Goals as goal

pub returns-then-has_in_word : goal.returns-then-has_in_word
unfolding pauses_of
returns-then-has_in_word t c =
    c.if-has_in_word.true
    ∙ sym (some_here _ c.args.first c.min-here.result c.args.count (omega (arith, c.min-here.ensures))
    (some_in_word c.args.self.now.words c.args.first c.min-here.result (omega (arith, c.min-here.ensures))
    ∙ (sym c.has_in_word.ensures ∙ c.if-has_in_word.true)))

pub returns-else-has_in_word : goal.returns-else-has_in_word
unfolding pauses_of
returns-else-has_in_word t c =
    c.has_some.ensures
    ∙ sym (some_later _ c.args.first c.min-here.result c.args.count (omega (arith, c.min-here.ensures))
    (some_in_word c.args.self.now.words c.args.first c.min-here.result (omega (arith, c.min-here.ensures))
    ∙ (sym c.has_in_word.ensures ∙ c.if-has_in_word.false)))
