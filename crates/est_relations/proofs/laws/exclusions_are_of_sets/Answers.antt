use Rattle.est_relations.proofs.Members.{one_means, one_where}
use Rattle.est_relations.proofs.laws.exclusions_are_of_sets.Goals as goal

pub returns : goal.returns
returns c = λ present members. (one_means present members, one_where present members)
