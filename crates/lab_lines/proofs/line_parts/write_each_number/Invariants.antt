use Rattle.std.proofs.Common.{◌≡◌, ◌++◌, take}
use Rattle.lab_lines.specs.TableJson.{number_json}
use Rattle.wire_lines.specs.Inner.ReplyTokens.{item_tokens}
use Rattle.lab_lines.proofs.line_parts.write_each_number.Given as goal

abbrev pub invariant-loop-number : goal.invariant-loop-number
invariant-loop-number l = l.line ≡ l.fn.line ++ item_tokens number_json (take l.number-index l.numbers)
