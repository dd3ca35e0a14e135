use Rattle.wire_lines.proofs.ReplyTexts.{changed_word, by_text}
use Rattle.wire_lines.proofs.accepted.changed_line.Goals as goal

pub returns : goal.returns
returns c =
    by_text (λ line. line.items) (changed_word c.args.change.now c.text.result.now c.args.version c.text.ensures)
    c.word_line.result c.word_line.ensures
