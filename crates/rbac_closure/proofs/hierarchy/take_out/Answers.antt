use Rattle.std.proofs.Common.{arith, ◌<◌, length, ap, sym, ◌∙◌, set, ℕ}
use Rattle.std.proofs.lemmas.List.Edits.{map_over_more}
use Rattle.rbac_closure.specs.Sets.{without_place}
use Rattle.rbac_closure.proofs.hierarchy.take_out.Goals as goal

pub loop-role-preserved : goal.loop-role-preserved
loop-role-preserved c =
    let f = λ (row : ℕ). without_place row c.args.place in
    let within : c.loop-role.role < length c.args.rows.now = omega arith in
    ap (set c.loop-role.rows c.loop-role.role) (c.without.ensures ∙ ap f (sym c.index-rows-role.is))
    ∙ map_over_more f c.args.rows.now c.loop-role.rows c.loop-role.role c.index-rows-role.result within
    c.loop-role.invariant c.index-rows-role.is
