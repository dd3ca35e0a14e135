use Rattle.std.proofs.Common.{refl}
use Rattle.lab_lines.specs.Inner.LineParts.{members_in}
use Rattle.lab_lines.specs.Ties.{tie_json}
use Rattle.lab_lines.proofs.LineLemmas.{object_is}
use Rattle.lab_lines.proofs.ties.write_tie.Goals as goal

pub returns : goal.returns
returns c =
    let value = tie_json c.args.interface.now in
    object_is value c.args.tie (members_in (value c.args.tie)) _ _ _ _ c.end_object.result refl
    c.in_ok-begin_object.ensures c.in_ok-write_tie_members.ensures c.end_object.ensures
