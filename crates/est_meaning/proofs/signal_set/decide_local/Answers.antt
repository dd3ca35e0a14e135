use Rattle.std.proofs.Common.{refl, arith}
use Rattle.est_kernel.proofs.Masks.{bits_above}
use Rattle.est_meaning.proofs.signal_set.decide_local.Goals as goal

pub returns-else-n-lt64 : goal.returns-else-n-lt64
returns-else-n-lt64 c =
    rw (
      bits_above c.args.present c.args.n (omega arith) (omega arith),
      bits_above c.args.possible c.args.n (omega arith) (omega arith),
    ) refl
