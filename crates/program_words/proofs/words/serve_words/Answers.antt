use Rattle.std.proofs.Common.{◌≡◌, ◌∙◌, refl, ap, ap₂, codes}
use Rattle.std.proofs.lemmas.Result.{IfOk-weaker}
use Rattle.clap.specs.Words.{app_of, new_app, rule_of, with_rule}
use Rattle.clap.specs.Simple.{app_of_fields}
use Rattle.program_words.specs.Words.{number_rule, socket_rule}
use Rattle.program_words.specs.declared.invocation.TheConstants.{MOST_CONNECTIONS, MOST_WORKERS}
use Rattle.program_words.proofs.CommandLines.{is_local}
use Rattle.program_words.proofs.words.serve_words.Goals as goal

pub returns : goal.returns
returns c =
    let socket_is : rule_of c.socket_option.result ≡ socket_rule = c.socket_option.ensures in
    let workers_is : rule_of c.workers_option.result ≡ number_rule (codes "workers") MOST_WORKERS
    = c.workers_option.ensures in
    let connections_is : rule_of c.connections_option.result ≡ number_rule (codes "connections") MOST_CONNECTIONS
    = c.connections_option.ensures in
    let bare : app_of c.about.result ≡ new_app (codes "serve") = ap app_of_fields c.about.ensures ∙ c.new.ensures.app in
    let socket_local = is_local c.socket_option.result _ socket_is refl in
    let workers_local = is_local c.workers_option.result _ workers_is refl in
    let connections_local = is_local c.connections_option.result _ connections_is refl in
    let with_socket = c.in_ok-arg.ensures.shape socket_local ∙ ap₂ with_rule bare socket_is in
    let with_workers = c.in_ok-arg-2.ensures.shape workers_local ∙ ap₂ with_rule with_socket workers_is in
    IfOk-weaker c.arg-3.result _ _ (λ words added.
    added.shape connections_local ∙ ap₂ with_rule with_workers connections_is) c.arg-3.ensures
