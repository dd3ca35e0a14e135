use Rattle.std.proofs.Common.{◌≡◌, ◌++◌, take}
use Rattle.serde_json.specs.Data.{string}
use Rattle.wire_lines.specs.Inner.ReplyTokens.{item_tokens}
use Rattle.wire_lines.proofs.line_writer.LineWriter.each_name.Given as goal

abbrev pub invariant-loop-name : goal.invariant-loop-name
invariant-loop-name l = l.self ≡ l.fn.self ++ item_tokens string (take l.name-index l.names)
