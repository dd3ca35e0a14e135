use Rattle.std.proofs.Common.{◌≡◌, ◌<◌, length, Some, slice_get, ap, sym, ◌∙◌, subst, arith, ℕ, Bool, true}
use Rattle.est_kernel.specs.Bits.{bits}
use Rattle.est_kernel.specs.Interfaces.{emittable}
use Rattle.est_meaning.specs.Rounds.{how_many}
use Rattle.est_net.specs.Owners.{places}
use Rattle.est_net.proofs.KernelOwners.{place_stands}
use Rattle.est_net.proofs.owners.find_signal.Goals as goal

pub returns-then-left-eq0-clause-found : goal.returns-then-left-eq0-clause-found
returns-then-left-eq0-clause-found c =
    let i = c.args.interface.now in
    let n = c.loop-n.n in
    let same = c.emittable-signals.ensures in
    let may : emittable i n ≡ true = ap (λ (f : ℕ → Bool). f n) (sym same) ∙ (sym c.has.ensures ∙ c.if-has.true) in
    let before : how_many (bits c.emittable-signals.result) n ≡ c.args.cell = omega (arith, c.loop-n.invariant) in
    let cell : how_many (emittable i) n ≡ c.args.cell = ap (λ (f : ℕ → Bool). how_many f n) (sym same) ∙ before in
    let within : n < length i = omega arith in
    subst (λ z. slice_get (places (emittable i) (length i)) z ≡ Some n) cell
    (place_stands (emittable i) (length i) n within may)
