use Rattle.std.proofs.Common.{◌≡◌, ◌∙◌, rules, refl, ap, ap₂, codes}
use Rattle.std.proofs.lemmas.Result.{IfOk-weaker}
use Rattle.clap.specs.Words.{app_of, new_app, rule_of, with_rule}
use Rattle.clap.specs.Simple.{app_of_fields}
use Rattle.program_words.specs.Words.{flag_rule}
use Rattle.program_words.proofs.CommandLines.{is_local}
use Rattle.program_words.proofs.words.script_words.Goals as goal

pub returns : goal.returns
returns c =
    let log_is : rule_of c.flag-log.result ≡ flag_rule (codes "log") = search rules in
    let report_is : rule_of c.flag-report.result ≡ flag_rule (codes "report") = search rules in
    let bare : app_of c.about.result ≡ new_app (codes "script") =
    ap app_of_fields c.about.ensures ∙ c.new.ensures.app in
    let logged = c.in_ok-arg.ensures.shape (is_local c.flag-log.result _ log_is refl) ∙ ap₂ with_rule bare log_is in
    IfOk-weaker c.arg-2.result _ _ (λ words added.
    added.shape (is_local c.flag-report.result _ report_is refl) ∙ ap₂ with_rule logged report_is) c.arg-2.ensures
