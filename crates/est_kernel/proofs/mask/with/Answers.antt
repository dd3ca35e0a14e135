use Rattle.std.proofs.Common.{ap, w64}
use Rattle.std.proofs.lemmas.Nat.Bits.{bit_at_set_same, bit_at_set_other}
use Rattle.std.proofs.Common.{nat_eq}
use Rattle.est_kernel.specs.Bits.{bits}
use Rattle.est_kernel.proofs.mask.with.Goals as goal

pub returns-clause-same : goal.returns-clause-same
unfolding bits
returns-clause-same c = ap (λ x. nat_eq x 1) (bit_at_set_same w64 c.args.mask c.args.n c.requires)

pub returns-clause-other : goal.returns-clause-other
unfolding bits
returns-clause-other c k d = ap (λ x. nat_eq x 1) (bit_at_set_other w64 c.args.mask c.args.n c.requires k d)
