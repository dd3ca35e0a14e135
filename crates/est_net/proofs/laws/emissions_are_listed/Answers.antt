use Rattle.est_net.proofs.EmissionLists.{emitted_listed}
use Rattle.est_net.proofs.laws.emissions_are_listed.Goals as goal

pub returns : goal.returns
returns c = record { emitted = emitted_listed }
