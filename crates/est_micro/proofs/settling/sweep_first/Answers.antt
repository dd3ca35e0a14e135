use Rattle.est_micro.proofs.FreshCells.{fresh_not, fresh_of_open}
use Rattle.est_micro.proofs.settling.sweep_first.Goals as goal

pub sweep-swept-requires-clause-fresh : goal.sweep-swept-requires-clause-fresh
sweep-swept-requires-clause-fresh c = fresh_not _ _ _

pub sweep-swept-requires-else-beginning-clause-fresh : goal.sweep-swept-requires-else-beginning-clause-fresh
sweep-swept-requires-else-beginning-clause-fresh c = fresh_of_open _ _ _ _ c.requires.open
