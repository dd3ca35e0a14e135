use Rattle.std.proofs.Common.{codes, ◌∙◌, ap, List, ℕ, ◌++◌}
use Rattle.serde_json.specs.Data.{string}
use Rattle.lab_lines.specs.Ties.{incarnation_json, kind_text, signal_json}
use Rattle.wire_lines.specs.Inner.ReplyTokens.{value_tokens}
use Rattle.lab_lines.proofs.LineLemmas.{three_members}
use Rattle.lab_lines.proofs.ties.write_tie_members.Goals as goal

pub returns : goal.returns
returns c =
    let t = c.args.tie in
    three_members c.write_signal.result _ _ _ _ (value_tokens (codes "at") (incarnation_json t.at))
    (value_tokens (codes "kind") (string (kind_text t.kind)))
    (value_tokens (codes "signal") (signal_json c.args.interface.now t.signal)) c.in_ok-write_incarnation_under.ensures
    (c.in_ok-text.ensures
    ∙ ap (λ (s : List ℕ). c.write_incarnation_under.new.line ++ value_tokens (codes "kind") (string s))
    c.kind_word.ensures)
    c.write_signal.ensures
