use Rattle.est_kernel.proofs.Masks.{zero_codes}
use Rattle.est_kernel.proofs.code_set.CodeSet.empty.Goals as goal

pub returns : goal.returns
returns c = zero_codes
