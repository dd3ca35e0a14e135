use Rattle.std.proofs.Common.{arith, ◌<◌, length, ap, sym, ◌∙◌, set}
use Rattle.std.proofs.lemmas.List.Edits.{map_over_more}
use Rattle.rbac_policy.specs.Tables.{session_dropped}
use Rattle.rbac_policy.proofs.tables.deactivate.Goals as goal

pub loop-at-preserved : goal.loop-at-preserved
loop-at-preserved c =
    let f = session_dropped c.args.number c.args.place in
    let within : c.loop-at.at < length c.args.sessions.now = omega arith in
    ap (set c.loop-at.sessions c.loop-at.at) (c.session_dropped.ensures ∙ ap f (sym c.index-sessions-at.is))
    ∙ map_over_more f c.args.sessions.now c.loop-at.sessions c.loop-at.at c.index-sessions-at.result within
    c.loop-at.invariant c.index-sessions-at.is
