use Rattle.std.proofs.Common.{refl}
use Rattle.est_kernel.specs.Bits.{bits}
use Rattle.est_net.proofs.Reaching.{par_added, seq_added, two_added}
use Rattle.est_net.proofs.reach.+add_pauses.Goals as goal

pub add_pauses_of_two-returns-clause-present : goal.add_pauses_of_two-returns-clause-present
add_pauses_of_two-returns-clause-present t c = two_added c.args.p.now c.args.q.now (bits c.args.later.end)
    (bits c.args.later.exit)
    c.args.pauses.now.items c.add_pauses.new.pauses.items c.add_pauses-2.new.pauses.items c.in_ok-first.first
    c.in_ok-second.second
    c.union.result c.in_ok-first.ensures c.in_ok-second.ensures c.union.ensures

pub add_pauses_of_two-returns-clause-par : goal.add_pauses_of_two-returns-clause-par
add_pauses_of_two-returns-clause-par t c = par_added c.args.p.now c.args.q.now (bits c.args.later.end)
    (bits c.args.later.exit)
    c.args.pauses.now.items c.add_pauses.new.pauses.items c.add_pauses-2.new.pauses.items c.in_ok-first.first
    c.in_ok-second.second
    c.union.result c.in_ok-first.ensures c.in_ok-second.ensures c.union.ensures

pub add_seq-returns : goal.add_seq-returns
add_seq-returns t c = seq_added c.args.p.now c.args.q.now (bits c.args.later.end) (bits c.args.later.exit)
    (bits c.in_ok-end.end) c.args.pauses.now.items c.add_pauses.new.pauses.items c.add_pauses-2.new.pauses.items
    c.in_ok-first.first
    c.in_ok-end.end c.in_ok-end.ensures refl c.in_ok-first.ensures
