use Rattle.std.proofs.Common.{◌+◌, arith}
use Rattle.est_micro.proofs.DecidedSheets.{not_all_known}
use Rattle.est_micro.proofs.Frames.{size_least}
use Rattle.est_micro.proofs.decided.is_decided.Goals as goal

pub is_decided-requires : goal.is_decided-requires
is_decided-requires c =
    let least = size_least c.args.at.now.main c.args.s.now c.args.at.now.traps in
    omega (arith, least, c.requires)

pub is_decided-requires-2 : goal.is_decided-requires-2
is_decided-requires-2 c =
    let least = size_least c.args.at.now.main c.args.s.now c.args.at.now.traps in
    omega (arith, least, c.requires)

pub returns-then-not-is_decided : goal.returns-then-not-is_decided
returns-then-not-is_decided c =
    let least = size_least c.args.at.now.main c.args.s.now c.args.at.now.traps in
    not_all_known _ _ (c.args.at.now.cell + 2) c.args.net.now.cells.items _ (omega (arith, least))
    (omega (arith, least)) c.is_decided.ensures c.if-not-is_decided.true

pub returns-then-not-is_decided-2 : goal.returns-then-not-is_decided-2
returns-then-not-is_decided-2 c =
    let least = size_least c.args.at.now.main c.args.s.now c.args.at.now.traps in
    not_all_known _ _ (c.args.at.now.cell + 1) c.args.net.now.cells.items _ (omega (arith, least))
    (omega (arith, least)) c.is_decided-2.ensures c.if-not-is_decided-2.true
