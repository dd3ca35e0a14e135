use Rattle.std.proofs.Common.{arith}
use Rattle.est_micro.proofs.Frames.{size_least}
use Rattle.est_micro.proofs.idle.past_idle.Goals as goal

pub status-requires : goal.status-requires
status-requires c =
    let least = size_least c.args.at.now.main c.args.s.now c.args.at.now.traps in
    omega (arith, least, c.requires)
