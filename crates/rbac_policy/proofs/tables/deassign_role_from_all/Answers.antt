use Rattle.std.proofs.Common.{arith, ◌<◌, length, ap, sym, ◌∙◌, set}
use Rattle.std.proofs.lemmas.List.Edits.{map_over_more}
use Rattle.rbac_policy.specs.Tables.{user_cleared}
use Rattle.rbac_policy.proofs.tables.deassign_role_from_all.Goals as goal

pub loop-at-preserved : goal.loop-at-preserved
loop-at-preserved c =
    let f = user_cleared c.args.place in
    let within : c.loop-at.at < length c.args.users.now = omega arith in
    ap (set c.loop-at.users c.loop-at.at) (c.user_cleared.ensures ∙ ap f (sym c.index-users-at.is))
    ∙ map_over_more f c.args.users.now c.loop-at.users c.loop-at.at c.index-users-at.result within c.loop-at.invariant
    c.index-users-at.is
