use Rattle.std.proofs.Common.{◌≡◌, ◌∙◌, ◌++◌, codes, append_assoc}
use Rattle.std.specs.Prelude.{decimal}
use Rattle.wire_lines.proofs.ReplyTexts.{audit_text, version_end}
use Rattle.wire_lines.proofs.accepted.audit_line.Goals as goal

pub returns : goal.returns
returns c =
    let entries = c.args.entries in
    let instants = c.args.instants in
    let version = c.args.version in
    let whole : c.add_version.new.line.items ≡ codes "{\"entries\":" ++ (decimal entries
    ++ (codes ",\"instants\":" ++ (decimal instants ++ (codes ",\"ok\":\"audit\"" ++ version_end version)))) =
    rw (
      c.in_ok-add_version.ensures,
      c.in_ok-extend_from_slice.ensures.items,
      c.in_ok-add_number-2.ensures,
      c.in_ok-add_number.ensures,
      c.in_ok-line.ensures.items,
    ) (simp append_assoc) in
    whole ∙ audit_text entries instants version
