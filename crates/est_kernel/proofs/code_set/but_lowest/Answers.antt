use Rattle.std.proofs.Common.{◌≡◌, ◌*◌, ◌/◌, ◌%◌, arith}
use Rattle.est_kernel.proofs.Masks.{but_zero_bits}
use Rattle.est_kernel.proofs.code_set.but_lowest.Goals as goal

pub returns : goal.returns
returns c = let e : c.args.a / 2 * 2 % 18446744073709551616 ≡ c.args.a / 2 * 2 = omega (arith, c.ranges.a.fits) in
    rw e (but_zero_bits c.args.a)
