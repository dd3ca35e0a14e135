use Rattle.est_cover.proofs.cover.+cover.Given as goal

abbrev pub decreases-cover : goal.decreases-cover
decreases-cover g l = l.part.unasked
