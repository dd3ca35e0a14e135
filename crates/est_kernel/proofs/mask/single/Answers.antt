use Rattle.std.proofs.Common.{◌≡◌, ◌*◌, ◌%◌, ◌^◌, arith}
use Rattle.est_kernel.proofs.Masks.{bits_pow}
use Rattle.std.proofs.lemmas.Grind.{common_steps}
use Rattle.est_kernel.proofs.mask.single.Goals as goal

pub returns : goal.returns
returns c k = let e : 1 * 2 ^ c.args.n % 18446744073709551616 ≡ 2 ^ c.args.n = grind (arith, common_steps) in
    rw e (bits_pow c.args.n k)
