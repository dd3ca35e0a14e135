use Rattle.std.proofs.Common.{◌∙◌, ◌++◌, ℕ, Option, ap, sym}
use Rattle.est_meaning.specs.declared.status.Status.{Status}
use Rattle.est_meaning.specs.declared.status.Status.TheVariants.{Present}
use Rattle.est_net.specs.Cells.{cell_at}
use Rattle.est_net.specs.declared.owners.CellKind.{CellKind}
use Rattle.lab_instant.specs.Seen.{go_place, listed, resumed_by_kind}
use Rattle.lab_instant.specs.declared.seen.Incarnation.{Incarnation}
use Rattle.lab_instant.proofs.reading.add_true.Goals as goal

pub returns-in_ok-add_resumed-in-Code-clause-went_on : goal.returns-in_ok-add_resumed-in-Code-clause-went_on
returns-in_ok-add_resumed-in-Code-clause-went_on c =
    let f = cell_at c.args.net.now.cells.items in
    let kind = c.args.cell.kind in
    let at = c.incarnation_of-in-Code.result in
    let go = c.go_place.result in
    c.in_ok-add_resumed-in-Code.ensures c.in-Code.field-0
    ∙ ap (λ (o : Option Incarnation). c.args.went_on.now.items ++ listed o)
    (ap (λ (k : CellKind). resumed_by_kind k (f go) Present at) (sym c.in-Code.is)
    ∙ (ap (λ (z : ℕ). resumed_by_kind kind (f z) Present at) c.go_place.ensures.place
    ∙ (ap (λ (v : Status). resumed_by_kind kind (f (go_place kind c.args.place)) v at) (sym c.requires.is_true)
    ∙ ap (λ (a : Incarnation). resumed_by_kind kind (f (go_place kind c.args.place)) (f c.args.place) a)
    c.incarnation_of-in-Code.ensures)))
