use Rattle.std.proofs.Common.{arith, ◌<◌, length, ap, sym, ◌∙◌, set}
use Rattle.std.proofs.lemmas.List.Edits.{map_over_more}
use Rattle.rbac_policy.specs.Tables.{grant_cleared}
use Rattle.rbac_policy.proofs.tables.take_all_grants.Goals as goal

pub loop-at-preserved : goal.loop-at-preserved
loop-at-preserved c =
    let f = grant_cleared c.args.place in
    let within : c.loop-at.at < length c.args.grants.now = omega arith in
    ap (set c.loop-at.grants c.loop-at.at) (c.grant_cleared.ensures ∙ ap f (sym c.index-grants-at.is))
    ∙ map_over_more f c.args.grants.now c.loop-at.grants c.loop-at.at c.index-grants-at.result within
    c.loop-at.invariant c.index-grants-at.is
