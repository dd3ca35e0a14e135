use Rattle.std.proofs.Common.{◌∙◌, ◌++◌, ◌∷◌, [], List, ap, append_assoc, sym}
use Rattle.est_net.specs.Owners.{cell_of, kind_at, own_owners}
use Rattle.est_net.specs.declared.owners.StatementCell.{StatementCell}
use Rattle.lab_instant.proofs.Cells.{own_more}
use Rattle.lab_instant.proofs.owners.add_own.Goals as goal

pub loop-offset-preserved : goal.loop-offset-preserved
loop-offset-preserved c =
    let a = c.args in
    let i = a.incarnation in
    let n = a.statement in
    let t = a.traps in
    let x = c.loop-offset.offset in
    let old = a.cells.now.items in
    let one = cell_of i n (kind_at t x) in
    c.in_ok-push.ensures.items
    ∙ (ap (λ (l : List StatementCell). l ++ c.own_cell.result ∷ []) c.loop-offset.invariant
    ∙ (ap (λ (o : StatementCell). (old ++ own_owners i n t x) ++ o ∷ []) c.own_cell.ensures
    ∙ (append_assoc old (own_owners i n t x) (one ∷ [])
    ∙ ap (λ (l : List StatementCell). old ++ l) (sym (own_more i n t x)))))
