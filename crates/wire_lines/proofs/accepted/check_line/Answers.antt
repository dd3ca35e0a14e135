use Rattle.std.proofs.Common.{◌∙◌}
use Rattle.wire_lines.proofs.ReplyTexts.{allowed_text, denied_text, by_text}
use Rattle.wire_lines.proofs.accepted.check_line.Goals as goal

pub returns-then-allowed : goal.returns-then-allowed
returns-then-allowed c =
    by_text (λ line. line.items) (c.as_bytes.ensures.value ∙ allowed_text c.args.allowed c.if-allowed.true)
    c.from_slice.result c.from_slice.ensures.items

pub returns : goal.returns
returns c =
    by_text (λ line. line.items) (c.as_bytes-2.ensures.value ∙ denied_text c.args.allowed c.if-allowed.false)
    c.from_slice-2.result c.from_slice-2.ensures.items
