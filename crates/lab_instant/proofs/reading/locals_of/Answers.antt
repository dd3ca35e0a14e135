use Rattle.std.proofs.Common.{◌∙◌, ◌++◌, List, Option, ap, sym, take}
use Rattle.std.specs.List.{flat_map}
use Rattle.est_net.specs.Cells.{cell_at}
use Rattle.lab_instant.specs.Seen.{listed}
use Rattle.lab_instant.specs.declared.seen.Local.{Local}
use Rattle.lab_instant.proofs.Cells.{all_told, locals_at, one_told}
use Rattle.lab_instant.proofs.reading.locals_of.Goals as goal

pub loop-place-preserved : goal.loop-place-preserved
loop-place-preserved c =
    let f = cell_at c.args.net.now.cells.items in
    let cells = c.args.cells.now in
    let signals = c.args.signals.now in
    let i = c.loop-place.place-index in
    let g = locals_at cells f c.args.first in
    c.in_ok-push_if.ensures
    ∙ (ap (λ (l : List Local). l ++ listed c.local_at.result) c.loop-place.invariant
    ∙ (ap (λ (o : Option Local). flat_map g (take i signals) ++ listed o) c.local_at.ensures
    ∙ sym (one_told cells f c.args.first i _ signals c.loop-place-test.true)))

pub returns : goal.returns
returns c =
    c.loop-place.invariant
    ∙ all_told c.args.cells.now (cell_at c.args.net.now.cells.items) c.args.first c.loop-place.place-index
    c.args.signals.now c.loop-place-test.false c.requires.signals
