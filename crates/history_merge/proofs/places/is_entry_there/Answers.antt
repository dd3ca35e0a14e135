use Rattle.std.proofs.Common.{◌-◌, length, sym, arith}
use Rattle.std.proofs.lemmas.Bool.Decides.{Decides-ltb}
use Rattle.history_merge.proofs.Risings.{get_is}
use Rattle.history_merge.proofs.Standing.{entered}
use Rattle.history_merge.proofs.places.is_entry_there.Goals as goal

pub returns-in-Some : goal.returns-in-Some
returns-in-Some c =
    let place = c.args.version - 1 in
    let found = c.in-Some.ensures.lookup in
    let here = get_is c.args.policy.now place c.in-Some.found.now
    ((Decides-ltb place (length c.args.policy.now)).0 (sym found.0)) found.1 in
    entered c.args.policy.now c.args.version c.args.entry.now c.in-Some.found.now _
    (omega arith) here c.is_same_entry.ensures
