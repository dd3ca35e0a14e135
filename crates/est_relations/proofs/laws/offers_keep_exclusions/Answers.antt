use Rattle.est_relations.proofs.OffersKeep.{offer_keeps}
use Rattle.est_relations.proofs.laws.offers_keep_exclusions.Goals as goal

pub returns : goal.returns
returns c = λ before after name k answer. offer_keeps before after name k answer
