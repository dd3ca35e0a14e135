use Rattle.est_kernel.specs.Pauses.{pauses_of}
use Rattle.est_meaning.specs.Views.{env_of}
use Rattle.est_micro.specs.Inner.Views.{IsResumed}
use Rattle.est_micro.proofs.PassingOn.{sweep_passes_on}
use Rattle.est_micro.proofs.FreshCells.{fresh_not}
use Rattle.est_micro.proofs.pass_resume.visit_resumed.Goals as goal

pub returns-clause-passes : goal.returns-clause-passes
unfolding IsResumed
returns-clause-passes c =
    sweep_passes_on c.args.at.now.direction c.args.s.now (pauses_of c.args.pauses.now) c.args.at.now.cell
    c.args.at.now.traps c.args.run (env_of c.args.env.now) _ _ c.sweep_resumed.result c.sweep_resumed.ensures.swept

pub sweep_resumed-requires-clause-fresh : goal.sweep_resumed-requires-clause-fresh
sweep_resumed-requires-clause-fresh c = fresh_not _ _ _
