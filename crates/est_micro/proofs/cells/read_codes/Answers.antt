use Rattle.std.proofs.Common.{◌≡◌, ◌+◌, ℕ, ap, arith, subst, ◌∙◌}
use Rattle.est_net.specs.Cells.{cell_at}
use Rattle.est_micro.proofs.Telling.{CodesSoFar, code_read, none_read, read_possible_done, read_sure_done}
use Rattle.est_micro.proofs.cells.read_codes.Goals as goal

pub loop-code-init : goal.loop-code-init
loop-code-init c =
    let xs = c.args.net.now.cells.items in
    let d = c.args.cell in
    let here : d ≡ d + 0 = omega arith in
    let a = c.with_cell-first.ensures in
    let b = c.with_cell-read.ensures in
    code_read xs d 1 _ _ _
    (code_read xs d 0 _ _ _ (none_read xs d _ c.empty.ensures c.empty-2.ensures)
    (c.status.ensures ∙ ap (cell_at xs) here) a.sure a.other_sure a.possible a.other_possible) c.status-2.ensures
    b.sure b.other_sure b.possible b.other_possible

pub loop-code-preserved : goal.loop-code-preserved
loop-code-preserved c =
    let a = c.with_cell-read-in-loop-code.ensures in
    code_read c.args.net.now.cells.items c.args.cell _ _ _ _ c.loop-code.invariant c.status-in-loop-code.ensures a.sure
    a.other_sure a.possible a.other_possible

pub returns-clause-sure : goal.returns-clause-sure
returns-clause-sure c =
    let f = cell_at c.args.net.now.cells.items in
    let e : c.loop-code.code ≡ c.args.count = omega arith in
    read_sure_done _ f c.args.cell c.args.count
    (subst (λ (z : ℕ). CodesSoFar c.args.net.now.cells.items c.args.cell z c.loop-code.read) e
    c.loop-code.invariant).sure

pub returns-clause-possible : goal.returns-clause-possible
returns-clause-possible c =
    let f = cell_at c.args.net.now.cells.items in
    let e : c.loop-code.code ≡ c.args.count = omega arith in
    read_possible_done _ f c.args.cell c.args.count
    (subst (λ (z : ℕ). CodesSoFar c.args.net.now.cells.items c.args.cell z c.loop-code.read) e
    c.loop-code.invariant).possible
