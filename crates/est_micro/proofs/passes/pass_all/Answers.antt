use Rattle.std.proofs.Common.{◌∙◌, refl, arith}
use Rattle.est_kernel.specs.Bits.{bits}
use Rattle.est_micro.proofs.PassRounds.{pass_round_by, pass_round_more, pass_round_ready}
use Rattle.est_micro.proofs.passes.pass_all.Goals as goal

pub loop-init : goal.loop-init
loop-init c = record { net = c.requires.net; more = omega arith; ready = λ others a h. h; kept = refl }

pub loop-preserved : goal.loop-preserved
loop-preserved c =
    let k = c.args.question.now.kernel.now in
    let x = c.args.question.now.state.now in
    let unasked = bits c.args.question.now.unasked in
    let inputs = bits c.args.question.now.inputs in
    let made = c.pass_round.ensures.made in
    let was = c.loop.invariant.more in
    let more = pass_round_more k.interface unasked inputs k.root x _ _ _ _ made in
    record {
      net = c.pass_round.ensures.net;
      more = omega arith;
      ready = λ others a h. pass_round_ready unasked k x others _ _ _ _ c.requires.apart
          (pass_round_by k.interface unasked inputs k.root x _ _ _ _ c.requires.apart made others a)
          (c.loop.invariant.ready others a h);
      kept = c.pass_round.ensures.kept ∙ c.loop.invariant.kept;
    }
