use Rattle.est_net.specs.Owners.{statements}
use Rattle.est_micro.proofs.walk.+ends_of.Given as goal

abbrev pub decreases-ends_of : goal.decreases-ends_of
decreases-ends_of l = statements l.part.now.statement.now
