use Rattle.std.proofs.Common.{◌∙◌, List, ◌++◌, codes, ap}
use Rattle.json.specs.Token.{Token}
use Rattle.serde_json.specs.Data.{number, string, unsigned}
use Rattle.lab_instant.specs.declared.seen.Instant.TheVariants.{Stuck}
use Rattle.wire_lines.specs.Inner.ReplyTokens.{member_tokens, value_tokens}
use Rattle.lab_lines.specs.Inside.{inside_json, locals_json, statements_json}
use Rattle.lab_lines.specs.Inner.LineParts.{members_in}
use Rattle.lab_lines.specs.Ties.{ties_json}
use Rattle.lab_lines.specs.FoundJson.{names_json}
use Rattle.lab_lines.proofs.LineLemmas.{six_pieces}
use Rattle.lab_lines.proofs.inside.stuck_line.Goals as goal

pub returns : goal.returns
returns c =
    let members =
    members_in (inside_json c.args.interface.now (Stuck c.args.stuck.now c.args.seen.now) c.args.stuck_ties.now) in
    c.end.ensures members
    (six_pieces _ _ _ _ _ _ _
    (value_tokens (codes "began") (statements_json c.args.seen.now.began.items))
    (value_tokens (codes "code") (number (unsigned 50)) ++ value_tokens (codes "fault") (string (codes "Stuck")))
    (value_tokens (codes "locals") (locals_json c.args.seen.now.locals.items))
    (value_tokens (codes "ties") (ties_json c.args.interface.now c.args.stuck_ties.now))
    (value_tokens (codes "undecided") (names_json c.args.interface.now c.args.stuck.now.undecided))
    (value_tokens (codes "went") (statements_json c.args.seen.now.went_on.items))
    (rw c.as_slice.ensures.value at c.in_ok-write_statements.ensures) c.in_ok-write_stuck_label.ensures
    (rw c.as_slice-2.ensures.value at c.in_ok-write_locals.ensures) c.in_ok-write_ties.ensures
    c.in_ok-write_names.ensures
    (rw c.as_slice-3.ensures.value at c.in_ok-write_statements-2.ensures)
    ∙ ap (λ (begun : List Token). begun ++ member_tokens members) c.in_ok-line.ensures)
