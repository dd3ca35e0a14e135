use Rattle.std.proofs.Common.{refl}
use Rattle.refusal_rules.proofs.RuleLemmas.{refuse, pass}
use Rattle.access_core.proofs.Deciding.{refusing}
use Rattle.access_core.proofs.Running.{not_no_instant, looks_from}
use Rattle.access_core.proofs.slot.show_instant.Goals as goal

pub returns-in-Ok-list_statuses : goal.returns-in-Ok-list_statuses
returns-in-Ok-list_statuses c = λ entries stands.
    let answer = c.in-Ok.ensures in
    let interface = c.interface-interface.ensures in
    pass (not_no_instant c.args.reactor.now c.args.instant answer.instant answer.there)
    (pass (record {})
    (looks_from entries c.args.slot c.args.session c.args.instant c.args.reactor.now interface.0
    c.interface-interface.result.now
    answer.instant c.find_observed-seen.result c.in-Ok.shown c.in-Ok-list_statuses.signals c.version.result
    interface.1 interface.2 answer.there answer.masked (c.find_observed-seen.ensures entries stands)
    c.in-Ok-list_statuses.ensures (c.version.ensures entries stands)))

pub returns-in-Err-list_statuses : goal.returns-in-Err-list_statuses
returns-in-Err-list_statuses c = λ entries stands.
    let answer = c.in-Ok.ensures in
    pass (not_no_instant c.args.reactor.now c.args.instant answer.instant answer.there)
    (refuse _ refl refusing)

pub returns-in-Err : goal.returns-in-Err
returns-in-Err c = λ entries stands.
    let answer = c.in-Err.ensures in
    refuse _ (refl, answer.1) refusing
