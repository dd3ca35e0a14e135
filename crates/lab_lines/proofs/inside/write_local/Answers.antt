use Rattle.std.proofs.Common.{refl}
use Rattle.lab_lines.specs.Inside.{local_json}
use Rattle.lab_lines.specs.Inner.LineParts.{members_in}
use Rattle.lab_lines.proofs.LineLemmas.{object_is}
use Rattle.lab_lines.proofs.inside.write_local.Goals as goal

pub returns : goal.returns
returns c =
    object_is local_json c.args.local (members_in (local_json c.args.local)) _ _ _ _ c.end_object.result refl
    c.in_ok-begin_object.ensures c.in_ok-write_local_members.ensures c.end_object.ensures
