use Rattle.std.proofs.Common.{◌≡◌, ◌<◌, ◌||◌, Bool, length, take, get_or, sym, ◌∙◌, ap, arith}
use Rattle.est_kernel.specs.Bits.{bits}
use Rattle.est_kernel.specs.Pauses.{pauses_of}
use Rattle.est_net.specs.Reach.{from_pauses}
use Rattle.est_net.proofs.Reaching.{next_told}
use Rattle.est_net.proofs.reach.Reach.from_pauses.Goals as goal

pub loop-from-preserved : goal.loop-from-preserved
loop-from-preserved c = λ n.
    let items = c.deref-from-items.result.now in
    let at = c.loop-from.from-index in
    let from = c.from-item.result in
    let within : at < length items = omega (arith, c.loop-from-test.true) in
    let is = c.from-item.is in
    let read : from ≡ get_or items at from = cc in
    c.union-signals.ensures n
    ∙ (ap (λ (b : Bool). b || bits c.share.result n) (c.loop-from.invariant n)
    ∙ (ap (λ (b : Bool). from_pauses (take at items) (pauses_of c.args.pauses.now) n || b) (c.share.ensures n)
    ∙ sym (next_told items at from (pauses_of c.args.pauses.now) n within read)))
