use Rattle.std.proofs.Common.{◌≡◌, ◌++◌, take}
use Rattle.lab_lines.specs.Inside.{local_json}
use Rattle.wire_lines.specs.Inner.ReplyTokens.{item_tokens}
use Rattle.lab_lines.proofs.inside.write_each_local.Given as goal

abbrev pub invariant-loop-each : goal.invariant-loop-each
invariant-loop-each l = l.line ≡ l.fn.line ++ item_tokens local_json (take l.each-index l.seen)
