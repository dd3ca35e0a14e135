use Rattle.std.proofs.Common.{◌≡◌, ◌++◌, take}
use Rattle.wire_lines.specs.Replies.{shown_json}
use Rattle.wire_lines.specs.Inner.ReplyTokens.{item_tokens}
use Rattle.wire_lines.proofs.line_writer.LineWriter.each_signal.Given as goal

abbrev pub invariant-loop-signal : goal.invariant-loop-signal
invariant-loop-signal l = l.self ≡ l.fn.self ++ item_tokens shown_json (take l.signal-index l.signals)
