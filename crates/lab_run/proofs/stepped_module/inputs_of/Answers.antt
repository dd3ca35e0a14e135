use Rattle.std.proofs.lemmas.Result.{err_from_is_err_and}
use Rattle.lab_run.proofs.Walks.{one_refused, one_taken}
use Rattle.lab_run.proofs.stepped_module.inputs_of.Goals as goal

pub returns-in_err-offer_name : goal.returns-in_err-offer_name
returns-in_err-offer_name c =
    let p = err_from_is_err_and c.from_residual.result c.from_residual.ensures.1 in
    rw (p.1, p.2)
    (c.loop-place.invariant _
    (one_refused c.args.names.now c.loop-place.place c.name_at.result c.loop-place.pending c.offer_name.new.pending
    c.in_err-offer_name.field-0.0 c.name_at.ensures c.in_err-offer_name.ensures))

pub loop-place-preserved : goal.loop-place-preserved
loop-place-preserved c = λ answer later.
    c.loop-place.invariant answer
    (one_taken c.args.names.now c.loop-place.place c.name_at.result c.loop-place.pending c.offer_name.new.pending answer
    c.name_at.ensures c.in_ok-offer_name.ensures later)
