use Rattle.est_host.proofs.loading.start.Goals as goal
use Rattle.est_host.specs.Faults.{no_memory}

pub returns-in-Err-clause-told : goal.returns-in-Err-clause-told
returns-in-Err-clause-told c = rw c.without_place.ensures no_memory
