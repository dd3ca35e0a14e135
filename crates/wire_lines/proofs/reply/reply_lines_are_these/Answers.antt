use Rattle.std.proofs.Common.{Bool, ◌∙◌, ◌++◌, codes, append_assoc, ap, refl, sym}
use Rattle.std.specs.Prelude.{decimal, if◌then◌else◌}
use Rattle.std.specs.Fmt.{digits}
use Rattle.serde_json.proofs.OnLiterals.{serde_json_on_literals}
use Rattle.reactor_core.specs.Meaning.{word_text}
use Rattle.wire_lines.proofs.ReplyTexts.{added_text, version_end}
use Rattle.wire_lines.proofs.reply.reply_lines_are_these.Goals as goal

pub returns-clause-login : goal.returns-clause-login
unfolding serde_json_on_literals digits
returns-clause-login c = λ session version. simp append_assoc

pub returns-clause-grant : goal.returns-clause-grant
unfolding serde_json_on_literals digits
returns-clause-grant c = λ version. simp append_assoc

pub returns-clause-logout : goal.returns-clause-logout
unfolding serde_json_on_literals digits
returns-clause-logout c = λ version. simp append_assoc

pub returns-clause-load : goal.returns-clause-load
unfolding serde_json_on_literals digits
returns-clause-load c = λ instants place version. simp append_assoc

pub returns-clause-step : goal.returns-clause-step
unfolding serde_json_on_literals digits
returns-clause-step c = λ instants place version. simp append_assoc

pub returns-clause-added : goal.returns-clause-added
returns-clause-added c = λ asked instants place version plain. sym (added_text asked instants place version)
    ∙ ap (λ (b : Bool). (if b then (codes "{\"instant\":" ++ decimal instants) ++ codes ",\"ok\":\""
    else codes "{\"ok\":\"") ++ (word_text asked ++
    (codes "\",\"place\":" ++ (decimal place ++ version_end version)))) plain

pub returns-clause-audit : goal.returns-clause-audit
unfolding serde_json_on_literals digits
returns-clause-audit c = λ entries instants version. simp append_assoc

pub returns-clause-check : goal.returns-clause-check
unfolding serde_json_on_literals digits
returns-clause-check c = refl

pub returns-clause-not_json : goal.returns-clause-not_json
unfolding serde_json_on_literals digits
returns-clause-not_json c = refl

pub returns-clause-memory : goal.returns-clause-memory
unfolding serde_json_on_literals digits
returns-clause-memory c = refl

pub returns-clause-unknown_user : goal.returns-clause-unknown_user
unfolding serde_json_on_literals digits
returns-clause-unknown_user c = λ user. simp append_assoc

pub returns-clause-syntax : goal.returns-clause-syntax
unfolding serde_json_on_literals digits
returns-clause-syntax c = λ place. simp append_assoc
