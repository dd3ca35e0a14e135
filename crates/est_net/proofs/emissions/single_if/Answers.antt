use Rattle.std.proofs.Common.{◌≡◌, ◌∙◌, ◌&&◌, Bool, true, false, nat_eq, refl}
use Rattle.est_kernel.proofs.Masks.{bits_zero}
use Rattle.est_net.proofs.emissions.single_if.Goals as goal

none : (a b : Bool) → b ≡ false → false ≡ (a && b)
none true b e = rw e refl
none false b e = refl

pub returns-else-is_in : goal.returns-else-is_in
returns-else-is_in c = λ n. bits_zero n ∙ none (nat_eq c.args.signal.index n) c.args.is_in c.if-is_in.false
