use Rattle.std.proofs.Common.{codes}
use Rattle.lab_lines.specs.Ties.{incarnation_json}
use Rattle.wire_lines.proofs.ReplyTokens.{list_is}
use Rattle.lab_lines.proofs.inside.write_statements.Goals as goal

pub returns : goal.returns
returns c =
    list_is incarnation_json c.args.seen.now c.args.name.now _ _ _ _ _ c.end_array.result c.in_ok-key.ensures
    c.in_ok-begin_array.ensures c.in_ok-write_each_statement.ensures c.end_array.ensures
