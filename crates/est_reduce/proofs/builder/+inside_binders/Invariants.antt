use Rattle.est_reduce.proofs.builder.+inside_binders.Given as goal

abbrev pub decreases-inside_binders : goal.decreases-inside_binders
decreases-inside_binders l = l.count
