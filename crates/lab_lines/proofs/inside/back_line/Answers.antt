use Rattle.std.proofs.Common.{◌∙◌, List, ◌++◌, codes, ap}
use Rattle.json.specs.Token.{Token}
use Rattle.serde_json.specs.Data.{string}
use Rattle.wire_lines.specs.Inner.ReplyTokens.{member_tokens, value_tokens}
use Rattle.lab_lines.specs.Inside.{back_json}
use Rattle.lab_lines.specs.Inner.LineParts.{members_in}
use Rattle.lab_lines.specs.TableJson.{state_json}
use Rattle.lab_lines.proofs.LineLemmas.{two_pieces}
use Rattle.lab_lines.proofs.inside.back_line.Goals as goal

pub returns : goal.returns
returns c =
    let members = members_in (back_json c.args.stands.now) in
    c.end.ensures members
    (two_pieces _ _ _ (value_tokens (codes "next") (state_json c.args.stands.now))
    (value_tokens (codes "ok") (string (codes "back"))) c.in_ok-write_state.ensures c.in_ok-text.ensures
    ∙ ap (λ (begun : List Token). begun ++ member_tokens members) c.in_ok-line.ensures)
