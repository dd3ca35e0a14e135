use Rattle.std.proofs.Common.{sym, ◌<◌, ◌≤◌, w64, arith}
use Rattle.std.specs.Int.{trailing_zeros}
use Rattle.std.proofs.lemmas.Nat.Bits.{ones_shl, bit_at-trailing_zeros}
use Rattle.est_kernel.proofs.Masks.{up_to_none, least_bits}
use Rattle.est_kernel.proofs.Masks.{bits_zero}
use Rattle.std.proofs.Common.{◌∙◌}
use Rattle.est_kernel.proofs.code_set.from_least.Goals as goal

pub returns-then-a-eq0 : goal.returns-then-a-eq0
returns-then-a-eq0 c n l = rw c.if-a-eq0.true (bits_zero n ∙ sym (up_to_none n))

pub returns-else-a-eq0 : goal.returns-else-a-eq0
returns-else-a-eq0 c n l =
    let p : 0 < c.args.a = omega arith in
    let low = bit_at-trailing_zeros w64 c.args.a p c.ranges.a.fits in
    let within : trailing_zeros w64 c.args.a ≤ 64 = omega (arith, low.0) in
    rw (ones_shl 64 (trailing_zeros w64 c.args.a) within) (least_bits c.args.a n p c.ranges.a.fits l)
