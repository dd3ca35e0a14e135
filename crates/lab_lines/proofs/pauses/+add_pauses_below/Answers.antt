use Rattle.std.proofs.Common.{◌∙◌, sym}
use Rattle.lab_lines.proofs.PauseLemmas.{none_between, one_between}
use Rattle.lab_lines.proofs.pauses.+add_pauses_below.Goals as goal

pub returns-then-not-has_some : goal.returns-then-not-has_some
returns-then-not-has_some t c =
    c.requires.before
    ∙ none_between c.args.paused.now c.args.first c.args.count (sym c.has_some.ensures ∙ c.if-not-has_some.true)

pub returns-then-count-eq1 : goal.returns-then-count-eq1
returns-then-count-eq1 t c =
    one_between c.args.paused.now c.args.first c.args.count c.args.numbers.now.items c.push.new.self.items
    c.if-count-eq1.true (sym c.has_some.ensures ∙ c.if-not-has_some.false) c.requires.before
    c.in_ok-push.ensures.items
