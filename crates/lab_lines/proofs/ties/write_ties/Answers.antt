use Rattle.std.proofs.Common.{codes}
use Rattle.lab_lines.specs.Ties.{tie_json}
use Rattle.wire_lines.proofs.ReplyTokens.{list_is}
use Rattle.lab_lines.proofs.ties.write_ties.Goals as goal

pub returns : goal.returns
returns c =
    list_is (tie_json c.args.interface.now) c.args.found.now
    (codes "ties") _ _ _ _ _ c.end_array.result c.in_ok-key.ensures
    c.in_ok-begin_array.ensures c.in_ok-write_each_tie.ensures c.end_array.ensures
