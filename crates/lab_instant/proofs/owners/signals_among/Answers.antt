use Rattle.std.proofs.Common.{◌∙◌, [], Option, ap, slice_get, sym}
use Rattle.std.proofs.lemmas.Option.{slice_get-get_or}
use Rattle.est_net.specs.declared.owners.StatementCell.{StatementCell}
use Rattle.lab_instant.specs.OwnCells.{signal_at}
use Rattle.lab_instant.proofs.Steps.{more_found, none_found}
use Rattle.lab_instant.proofs.owners.signals_among.Goals as goal

pub loop-place-init : goal.loop-place-init
loop-place-init c = c.new-signals.ensures.items ∙ sym (none_found _)

pub loop-place-preserved : goal.loop-place-preserved
loop-place-preserved c =
    let x = c.loop-place.place in
    let cells = c.args.cells.now in
    let there = slice_get-get_or cells x _ c.loop-place-test.true in
    more_found (λ y. signal_at (slice_get cells y) y) x c.loop-place.signals.items c.push_if.new.list.items []
    c.signal_place.result
    (c.signal_place.ensures ∙ ap (λ (o : Option StatementCell). signal_at o x) (sym there))
    c.in_ok-push_if.ensures c.loop-place.invariant
