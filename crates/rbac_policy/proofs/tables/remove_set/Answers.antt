use Rattle.std.proofs.Common.{arith, ◌<◌, length, ap, sym, ◌∙◌, set}
use Rattle.std.proofs.lemmas.List.Edits.{map_over_more}
use Rattle.rbac_policy.specs.Tables.{set_without}
use Rattle.rbac_policy.proofs.tables.remove_set.Goals as goal

pub loop-at-preserved : goal.loop-at-preserved
loop-at-preserved c =
    let f = set_without c.args.name.now in
    let within : c.loop-at.at < length c.args.sets.now = omega arith in
    ap (set c.loop-at.sets c.loop-at.at) (c.set_without.ensures ∙ ap f (sym c.index-sets-at.is))
    ∙ map_over_more f c.args.sets.now c.loop-at.sets c.loop-at.at c.index-sets-at.result within c.loop-at.invariant
    c.index-sets-at.is
