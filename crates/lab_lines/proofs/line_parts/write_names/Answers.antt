use Rattle.lab_lines.specs.FoundJson.{names_from}
use Rattle.lab_lines.proofs.LineLemmas.{values_are}
use Rattle.wire_lines.proofs.ReplyTokens.{list_is}
use Rattle.lab_lines.proofs.line_parts.write_names.Goals as goal

pub returns : goal.returns
returns c =
    let names = names_from 0 c.args.interface.now c.args.signals in
    values_are c.end_array.result names c.args.name.now _ _
    (list_is (λ name. name) names c.args.name.now _ _ _ _ _ c.end_array.result c.in_ok-key.ensures
    c.in_ok-begin_array.ensures c.in_ok-write_each_name.ensures c.end_array.ensures)
