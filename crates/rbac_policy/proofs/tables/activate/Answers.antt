use Rattle.std.proofs.Common.{arith, ◌<◌, length, ap, sym, ◌∙◌, set}
use Rattle.std.proofs.lemmas.List.Edits.{map_over_more}
use Rattle.rbac_policy.specs.Tables.{session_activated}
use Rattle.rbac_policy.proofs.tables.activate.Goals as goal

pub loop-at-preserved : goal.loop-at-preserved
loop-at-preserved c =
    let f = session_activated c.args.number c.args.place in
    let within : c.loop-at.at < length c.args.sessions.now = omega arith in
    ap (set c.loop-at.sessions c.loop-at.at) (c.session_activated.ensures ∙ ap f (sym c.index-sessions-at.is))
    ∙ map_over_more f c.args.sessions.now c.loop-at.sessions c.loop-at.at c.index-sessions-at.result within
    c.loop-at.invariant c.index-sessions-at.is
