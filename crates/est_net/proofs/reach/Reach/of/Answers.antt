use Rattle.std.proofs.Common.{refl}
use Rattle.est_net.proofs.Reaching.{nothing_later}
use Rattle.est_net.proofs.reach.Reach.of.Goals as goal

pub returns : goal.returns
returns c = nothing_later c.args.s.now _ _ c.in_ok-first.first _ _ c.no_signal.ensures c.no_signal-2.ensures
    c.in_ok-first.ensures _ refl refl
