use Rattle.std.proofs.Common.{codes}
use Rattle.wire_lines.specs.Replies.{shown_json}
use Rattle.wire_lines.proofs.ReplyTokens.{list_is}
use Rattle.wire_lines.proofs.line_writer.LineWriter.signals.Goals as goal

pub returns : goal.returns
returns c =
    list_is shown_json c.args.signals.now (codes "signals") _ _ _ _ _ c.end_array.result c.in_ok-key.ensures
    c.in_ok-begin_array.ensures c.in_ok-each_signal.ensures c.end_array.ensures
