use Rattle.est_kernel.specs.declared.statement.Statement.TheVariants.{Par'}
use Rattle.est_micro.proofs.ParSides.{first_side, none_at, second_side_at}
use Rattle.est_micro.proofs.sides.Sides.of.Goals as goal

pub returns : goal.returns
returns c = λ a b.
    let xs = c.args.net.now.extents.items in
    let at = c.args.at.now in
    let s = Par' a c.args.p.now b c.args.q.now in
    c.add.ensures s (second_side_at xs _ at a c.args.p.now b c.args.q.now _ _ c.number_after-next_number.ensures
    c.past-next_cell.ensures c.requires)
    (c.push.ensures xs at s (first_side xs _ at a c.args.p.now b c.args.q.now c.requires)
    (none_at xs at s _ _ c.none-sides.ensures))
