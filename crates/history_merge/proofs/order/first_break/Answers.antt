use Rattle.std.proofs.Common.{◌≡◌, length, subst, arith}
use Rattle.history_merge.proofs.Risings.{Risen, get_is, risen_all, risen_breaks}
use Rattle.history_merge.proofs.order.first_break.Goals as goal

pub returns-then-not-rises : goal.returns-then-not-rises
returns-then-not-rises c = risen_breaks c.args.kept.now c.loop-n.n c.loop-n.version c.loop-n.number
    c.index-kept-n.result (get_is c.args.kept.now c.loop-n.n c.index-kept-n.result c.loop-n-test.true c.index-kept-n.is)
    (λ r. let e = c.if-not-rises.ensures.1 r in absurd cc) c.loop-n.invariant

pub returns : goal.returns
returns c =
    let n : c.loop-n.n ≡ length c.args.kept.now =
    (let a = c.loop-n-test.false in let b = c.loop-n.auto in omega arith) in
    risen_all c.args.kept.now c.loop-n.version c.loop-n.number
    (subst (λ k. Risen c.args.kept.now k c.loop-n.version c.loop-n.number) n c.loop-n.invariant)
