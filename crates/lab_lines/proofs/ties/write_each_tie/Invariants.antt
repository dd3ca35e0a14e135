use Rattle.std.proofs.Common.{◌≡◌, ◌++◌, take}
use Rattle.lab_lines.specs.Ties.{tie_json}
use Rattle.wire_lines.specs.Inner.ReplyTokens.{item_tokens}
use Rattle.lab_lines.proofs.ties.write_each_tie.Given as goal

abbrev pub invariant-loop-each : goal.invariant-loop-each
invariant-loop-each l = l.line ≡ l.fn.line ++ item_tokens (tie_json l.interface) (take l.each-index l.found)
