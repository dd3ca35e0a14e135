use Rattle.std.proofs.Common.{◌≡◌, ◌∙◌, Some, length, ap, sym}
use Rattle.std.specs.Prelude.{option_map}
use Rattle.serde_json.specs.Find.{as_object}
use Rattle.serde_json.specs.View.{view}
use Rattle.lab_lines.specs.Requests.{member_count}
use Rattle.lab_lines.proofs.RequestLemmas.{counted, members_are_entries}
use Rattle.lab_lines.proofs.reading.has_members.Goals as goal

pub returns-in-Some : goal.returns-in-Some
returns-in-Some c =
    let entries = c.in-Some.members.now.entries in
    let count : option_map member_count (as_object (view c.args.value.now)) ≡ Some (length entries) =
    ap (option_map member_count) (sym c.in-Some.ensures) ∙ ap Some (members_are_entries entries) in
    counted _ (length entries) c.len.result c.args.count count c.len.ensures.len
