use Rattle.std.proofs.Common.{◌≡◌, ◌∙◌, ◌++◌, codes, append_assoc}
use Rattle.std.specs.Prelude.{decimal}
use Rattle.reactor_core.specs.Meaning.{word_text}
use Rattle.wire_lines.specs.Inner.Pieces.{added_begin}
use Rattle.wire_lines.proofs.ReplyTexts.{added_text, version_end}
use Rattle.wire_lines.proofs.accepted.added_line.Goals as goal

pub returns : goal.returns
returns c =
    let added = c.args.added.now in
    let whole : c.add_version.new.line.items ≡ added_begin added.word added.instants
    ++ (word_text added.word ++ (codes "\",\"place\":" ++ (decimal added.place ++ version_end added.version))) =
    rw (
      c.in_ok-add_version.ensures,
      c.in_ok-add_number.ensures,
      c.in_ok-extend_from_slice.ensures.items,
      c.as_bytes.ensures.value,
      c.text.ensures,
      c.in_ok-line.ensures,
    ) (simp append_assoc) in
    whole ∙ added_text added.word added.instants added.place added.version
