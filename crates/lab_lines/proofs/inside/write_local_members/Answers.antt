use Rattle.std.proofs.Common.{codes}
use Rattle.lab_lines.specs.Inside.{status_json}
use Rattle.lab_lines.specs.Ties.{incarnation_json}
use Rattle.wire_lines.specs.Inner.ReplyTokens.{value_tokens}
use Rattle.lab_lines.proofs.LineLemmas.{two_members}
use Rattle.lab_lines.proofs.inside.write_local_members.Goals as goal

pub returns : goal.returns
returns c =
    two_members c.write_status.result _ _ _ (value_tokens (codes "at") (incarnation_json c.args.local.declared))
    (value_tokens (codes "present") (status_json c.args.local.status)) c.in_ok-write_incarnation_under.ensures
    c.write_status.ensures
