use Rattle.std.proofs.Common.{◌≡◌, ◌∙◌, ◌++◌, codes, rules, refl}
use Rattle.std.specs.Prelude.{decimal}
use Rattle.wire_lines.proofs.ReplyTexts.{login_text, version_end}
use Rattle.wire_lines.proofs.accepted.login_line.Goals as goal

pub returns : goal.returns
returns c =
    let session = c.args.session.now in
    let version = c.args.version in
    let same : c.from-session.result ≡ session = search rules in
    let whole : c.add_version.new.line.items ≡ codes "{\"ok\":\"login\",\"session\":"
    ++ (decimal session ++ version_end version) =
    rw (
      c.in_ok-add_version.ensures,
      c.in_ok-add_number.ensures,
      c.in_ok-line.ensures.items,
      same,
    ) refl in
    whole ∙ login_text session version
