use Rattle.est_left.specs.Inner.Heads.{rest_term}
use Rattle.est_left.proofs.Sizes.{term_size}
use Rattle.est_left.proofs.same_term.+is_same_rest.Given as goal

abbrev pub decreases-is_same_rest : goal.decreases-is_same_rest
decreases-is_same_rest l = term_size (rest_term l.one)
