use Rattle.est_kernel.specs.Bits.{bits}
use Rattle.est_micro.proofs.Outcomes.{done_values, reaction_done}
use Rattle.est_micro.proofs.micro.read_outcome.Goals as goal

pub returns-in-Done-clause-some : goal.returns-in-Done-clause-some
returns-in-Done-clause-some c =
    let k = c.args.kernel.now in
    rw c.in-Done.is (record {
      reaction = λ i h. reaction_done k i _ c.args.swept.now k.loop_safe h;
      values = λ i h. done_values k (bits i.signals) _ c.args.swept.now k.loop_safe h;
    })

pub outcome-requires-clause-lives : goal.outcome-requires-clause-lives
outcome-requires-clause-lives c = λ h. cc (c.in-Fresh.is, h)

pub outcome-requires-clause-from : goal.outcome-requires-clause-from
outcome-requires-clause-from c = λ p h. cc (c.in-Fresh.is, h)

pub outcome-requires-in-Paused-clause-lives : goal.outcome-requires-in-Paused-clause-lives
outcome-requires-in-Paused-clause-lives c = λ h. cc (c.in-Paused.is, h)
