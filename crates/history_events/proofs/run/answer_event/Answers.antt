use Rattle.std.proofs.Common.{◌≡◌, sym, subst}
use Rattle.history_events.specs.declared.event.Event.TheVariants as event
use Rattle.history_events.specs.Runs.{EventStep}
use Rattle.history_events.proofs.run.answer_event.Goals as goal

pub returns-in_ok-try_clone-in-Admin : goal.returns-in_ok-try_clone-in-Admin
returns-in_ok-try_clone-in-Admin c =
    let command = c.in-Admin.command in
    let copy = c.in_ok-try_clone-in-Admin.field-0 in
    let same : copy ≡ command = c.in_ok-try_clone-in-Admin.ensures in
    subst (λ e. EventStep e c.args.desk.now c.admin.result c.admin.new.self) (sym c.in-Admin.is)
    (subst (λ given. EventStep (event.Admin c.in-Admin.seat c.in-Admin.session given) c.args.desk.now c.admin.result
    c.admin.new.self) same c.admin.ensures)
