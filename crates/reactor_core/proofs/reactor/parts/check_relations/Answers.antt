use Rattle.std.proofs.Common.{◌≡◌, ◌∙◌, ap, List}
use Rattle.std.proofs.lemmas.Result.{err_from_is_err_and}
use Rattle.est_kernel.specs.declared.interface.Declaration.{Declaration}
use Rattle.est_relations.specs.Offers.{PendingInputs}
use Rattle.reactor_core.specs.Standing.{inputs_of_module}
use Rattle.reactor_core.proofs.Joining.{takes, lacks}
use Rattle.reactor_core.proofs.reactor.parts.check_relations.Goals as goal

pub returns-in_err-ready : goal.returns-in_err-ready
returns-in_err-ready c =
    let m = c.args.loaded.now in
    let is : c.resume-pending.result ≡ inputs_of_module m c.args.pending = c.resume-pending.ensures
    ∙ ap (λ (i : List Declaration). let p : PendingInputs =
    record { interface = i; relations = m.relations; inputs = c.args.pending } in p) c.interface.ensures in
    let p = err_from_is_err_and c.from_residual.result c.from_residual.ensures.1 in
    rw (p.1, p.2) (lacks m c.args.pending c.resume-pending.result c.in_err-ready.field-0.0 is c.in_err-ready.ensures)

pub returns : goal.returns
returns c =
    let m = c.args.loaded.now in
    let is : c.resume-pending.result ≡ inputs_of_module m c.args.pending = c.resume-pending.ensures
    ∙ ap (λ (i : List Declaration). let p : PendingInputs =
    record { interface = i; relations = m.relations; inputs = c.args.pending } in p) c.interface.ensures in
    takes m c.args.pending c.resume-pending.result is c.in_ok-ready.ensures
