use Rattle.std.proofs.Common.{◌≡◌, ◌++◌, take}
use Rattle.lab_lines.specs.Ties.{incarnation_json}
use Rattle.wire_lines.specs.Inner.ReplyTokens.{item_tokens}
use Rattle.lab_lines.proofs.inside.write_each_statement.Given as goal

abbrev pub invariant-loop-at : goal.invariant-loop-at
invariant-loop-at l = l.line ≡ l.fn.line ++ item_tokens incarnation_json (take l.at-index l.seen)
