use Rattle.std.proofs.Common.{◌∙◌, sym}
use Rattle.wire_lines.proofs.ReplyTexts.{step_begins, plain_begins, by_text}
use Rattle.wire_lines.proofs.accepted.begin_line.Goals as goal

pub returns-then-is_step : goal.returns-then-is_step
returns-then-is_step c =
    by_text (λ line. line.items)
    (step_begins c.args.word c.args.instants (sym c.is_step.ensures ∙ c.if-is_step.true))
    c.begin_step.result c.begin_step.ensures

pub returns : goal.returns
returns c =
    by_text (λ line. line.items)
    (plain_begins c.args.word c.args.instants (sym c.is_step.ensures ∙ c.if-is_step.false))
    c.begin_plain.result c.begin_plain.ensures
