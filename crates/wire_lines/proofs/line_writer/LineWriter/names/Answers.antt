use Rattle.serde_json.specs.Data.{string}
use Rattle.wire_lines.proofs.ReplyTokens.{list_is}
use Rattle.wire_lines.proofs.line_writer.LineWriter.names.Goals as goal

pub returns : goal.returns
returns c =
    list_is string c.args.names.now c.args.name.now _ _ _ _ _ c.end_array.result c.in_ok-key.ensures
    c.in_ok-begin_array.ensures c.in_ok-each_name.ensures c.end_array.ensures
