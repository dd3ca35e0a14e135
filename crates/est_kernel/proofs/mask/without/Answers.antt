use Rattle.std.proofs.Common.{ap, w64, inl, inr}
use Rattle.std.proofs.lemmas.Nat.Bits.{bit_at_clear_same, bit_at_clear_other}
use Rattle.std.proofs.lemmas.Bool.{cases_lt}
use Rattle.std.proofs.Common.{nat_eq}
use Rattle.est_kernel.specs.Bits.{bits}
use Rattle.est_kernel.proofs.Masks.{bits_and_above}
use Rattle.est_kernel.proofs.mask.without.Goals as goal

pub returns-clause-same : goal.returns-clause-same
unfolding bits
returns-clause-same c = ap (λ x. nat_eq x 1) (bit_at_clear_same w64 c.args.mask c.args.n c.requires)

pub returns-clause-other : goal.returns-clause-other
unfolding bits
returns-clause-other c k d = elim (cases_lt k 64) [
  | inl l ↦ ap (λ x. nat_eq x 1) (bit_at_clear_other w64 c.args.mask c.args.n c.requires k l d)
  | inr g ↦ bits_and_above _ _ k c.ranges.mask.fits g
]
