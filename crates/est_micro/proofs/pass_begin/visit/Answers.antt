use Rattle.est_meaning.specs.Views.{env_of}
use Rattle.est_micro.specs.Inner.Views.{IsBegun}
use Rattle.est_micro.proofs.Passing.{sweep_passes}
use Rattle.est_micro.proofs.FreshCells.{fresh_not}
use Rattle.est_micro.proofs.pass_begin.visit.Goals as goal

pub returns-clause-passes : goal.returns-clause-passes
unfolding IsBegun
returns-clause-passes c =
    sweep_passes c.args.at.now.direction c.args.at.now.main c.args.s.now c.args.at.now.cell c.args.at.now.traps
    c.args.gate (env_of c.args.env.now) _ _ c.sweep_begun.result c.sweep_begun.ensures.swept

pub sweep_begun-requires-clause-fresh : goal.sweep_begun-requires-clause-fresh
sweep_begun-requires-clause-fresh c = fresh_not _ _ _
