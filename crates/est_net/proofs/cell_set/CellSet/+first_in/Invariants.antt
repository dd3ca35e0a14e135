use Rattle.std.proofs.Common.{◌-◌}
use Rattle.est_net.proofs.cell_set.CellSet.+first_in.Given as goal

abbrev pub decreases-first_in : goal.decreases-first_in
decreases-first_in l = l.past - l.from
