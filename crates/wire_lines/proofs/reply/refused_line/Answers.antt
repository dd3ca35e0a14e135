use Rattle.std.proofs.Common.{◌∙◌, List, ◌++◌, ap}
use Rattle.json.specs.Token.{Token}
use Rattle.wire_lines.specs.Inner.ReplyTokens.{member_tokens}
use Rattle.wire_lines.specs.Replies.{refusal_members}
use Rattle.wire_lines.proofs.reply.refused_line.Goals as goal

pub returns : goal.returns
returns c =
    let members = refusal_members c.args.refusal.now in
    c.end.ensures members
    (c.in_ok-write_refusal.ensures ∙ ap (λ (begun : List Token). begun ++ member_tokens members) c.in_ok-line.ensures)
