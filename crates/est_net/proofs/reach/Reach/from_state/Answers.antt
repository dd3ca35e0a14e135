use Rattle.std.proofs.Common.{◌∙◌}
use Rattle.est_kernel.specs.declared.state.State.TheVariants.{Done, Fresh, Paused}
use Rattle.est_net.proofs.Covering.{reach_has_emissions}
use Rattle.est_net.proofs.reach.Reach.from_state.Goals as goal

pub returns-in-Fresh-clause-emissions : goal.returns-in-Fresh-clause-emissions
returns-in-Fresh-clause-emissions c = λ s r w e n k.
    reach_has_emissions s Fresh c.args.self.now r tt e n (rw c.in-Fresh.is at k)

pub returns-in-Done-clause-emissions : goal.returns-in-Done-clause-emissions
returns-in-Done-clause-emissions c = λ s r w e n k.
    c.no_signal.ensures n ∙ reach_has_emissions s Done c.args.self.now r tt e n (rw c.in-Done.is at k)

pub returns-in-Paused-clause-emissions : goal.returns-in-Paused-clause-emissions
returns-in-Paused-clause-emissions c = λ s r w e n k.
    c.from_pauses.ensures n
    ∙ reach_has_emissions s (Paused _) c.args.self.now r (rw c.in-Paused.is at w) e n (rw c.in-Paused.is at k)
