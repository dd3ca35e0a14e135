use Rattle.std.proofs.Common.{arith, refl}
use Rattle.est_micro.proofs.DecidedSheets.{decided_read}
use Rattle.est_micro.proofs.Frames.{size_least}
use Rattle.est_micro.proofs.decided.read.Goals as goal

pub read_codes-requires-clause-within : goal.read_codes-requires-clause-within
read_codes-requires-clause-within c =
    let least = size_least c.args.at.now.main c.args.s.now c.args.at.now.traps in
    omega (arith, least, c.requires.within)

pub returns : goal.returns
returns c =
    decided_read c.args.s.now c.args.at.now _ _ _ _ _ _ c.no_signal-emitted.ensures c.add_emitted-past.ensures
    c.requires.decided c.read_codes.ensures.sure refl
