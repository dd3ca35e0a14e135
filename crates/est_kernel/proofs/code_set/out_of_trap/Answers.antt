use Rattle.std.proofs.Common.{◌≡◌, ◌*◌, ◌/◌, ◌%◌, arith}
use Rattle.est_kernel.proofs.Masks.{out_of_trap_bits}
use Rattle.est_kernel.proofs.code_set.out_of_trap.Goals as goal

pub returns : goal.returns
returns c = let e : c.args.a / 8 * 4 % 18446744073709551616 ≡ c.args.a / 8 * 4 = omega (arith, c.ranges.a.fits) in
    rw e (out_of_trap_bits c.args.a)
