use Rattle.std.proofs.Common.{◌≡◌, ◌||◌, Bool, true, false, refl, sym, ap, ◌∙◌}
use Rattle.est_kernel.specs.Bits.{bits}
use Rattle.est_micro.proofs.outputs.put.Goals as goal

with_true : (a : Bool) → true ≡ (a || true)
with_true true = refl
with_true false = refl

with_false : (a : Bool) → a ≡ (a || false)
with_false true = refl
with_false false = refl

pub returns-then-is_in-clause-here : goal.returns-then-is_in-clause-here
returns-then-is_in-clause-here c =
    c.with.ensures.same ∙ (with_true (bits c.args.mask c.args.n)
    ∙ ap (λ (b : Bool). bits c.args.mask c.args.n || b) (sym c.if-is_in.true))

pub returns-else-is_in-clause-here : goal.returns-else-is_in-clause-here
returns-else-is_in-clause-here c =
    with_false (bits c.args.mask c.args.n) ∙ ap (λ (b : Bool). bits c.args.mask c.args.n || b) (sym c.if-is_in.false)
