use Rattle.std.proofs.Common.{◌≡◌, ◌∙◌, ap, List}
use Rattle.std.proofs.lemmas.Result.{err_from_is_err_and}
use Rattle.est_kernel.specs.declared.interface.Declaration.{Declaration}
use Rattle.est_relations.specs.Offers.{PendingInputs}
use Rattle.reactor_core.specs.Standing.{inputs_of_module}
use Rattle.reactor_core.proofs.Joining.{joins, refuses}
use Rattle.reactor_core.proofs.reactor.parts.offer_input.Goals as goal

pub returns-in_err-offer : goal.returns-in_err-offer
returns-in_err-offer c =
    let m = c.args.loaded.now in
    let is : c.resume-pending.result ≡ inputs_of_module m c.args.pending = c.resume-pending.ensures
    ∙ ap (λ (i : List Declaration). let p : PendingInputs =
    record { interface = i; relations = m.relations; inputs = c.args.pending } in p) c.interface.ensures in
    let p = err_from_is_err_and c.from_residual.result c.from_residual.ensures.1 in
    rw (p.1, p.2)
    (refuses m c.args.pending c.args.name.now c.resume-pending.result c.offer.new.self
    c.in_err-offer.field-0.0 is c.in_err-offer.ensures)

pub returns : goal.returns
returns c =
    let m = c.args.loaded.now in
    let is : c.resume-pending.result ≡ inputs_of_module m c.args.pending = c.resume-pending.ensures
    ∙ ap (λ (i : List Declaration). let p : PendingInputs =
    record { interface = i; relations = m.relations; inputs = c.args.pending } in p) c.interface.ensures in
    joins m c.args.pending c.args.name.now c.resume-pending.result c.offer.new.self c.inputs.result is
    c.inputs.ensures.inputs c.inputs.ensures.kept c.in_ok-offer.ensures
