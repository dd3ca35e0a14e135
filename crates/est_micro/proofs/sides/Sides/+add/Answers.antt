use Rattle.std.proofs.Common.{ap, sym, refl, ◌+◌, ◌∙◌, subst}
use Rattle.est_kernel.specs.declared.statement.Statement.{Statement}
use Rattle.est_cells.specs.Tables.{sheet_size}
use Rattle.est_net.specs.Owners.{statements}
use Rattle.est_micro.specs.Inner.Sides.{IsSideOf}
use Rattle.est_micro.proofs.ParSides.{first_of, second_at}
use Rattle.est_micro.proofs.sides.Sides.+add.Goals as goal

pub returns-in-Par : goal.returns-in-Par
returns-in-Par t c = λ r h k.
    let xs = c.args.net.now.extents.items in
    let top = c.args.top.now in
    let n = c.args.number in
    let d = c.args.cell in
    let p = c.in-Par.p.value in
    let q = c.in-Par.q.value in
    let whole = subst (λ (z : Statement). IsSideOf xs top r z n d) c.in-Par.is h in
    let first = subst (λ (z : Statement). IsSideOf xs top r z (n + 1) (d + top.traps + 3)) (sym c.deref.ensures)
    (first_of xs top r _ p _ q n d whole) in
    let second =
    subst (λ (z : Statement). IsSideOf xs top r z c.number_after-next_number.result c.past-next_cell.result)
    (sym c.deref-in-Par-3.ensures)
    (second_at xs top r _ p _ q n d top.traps c.number_after-next_number.result c.past-next_cell.result top.main refl
    refl
    (c.number_after-next_number.ensures ∙ ap (λ (z : Statement). n + 1 + statements z) c.deref-in-Par.ensures)
    (c.past-next_cell.ensures ∙ ap (λ (z : Statement). d + top.traps + 3 + sheet_size top.main z top.traps)
    c.deref-in-Par-2.ensures) whole) in
    c.add.ensures r second (c.push.ensures xs top r first k)
