-- Reduction has one answer.
use Rattle.std.proofs.Common.{◌≡◌, ◌⊎◌, inl, inr, List, Some, refl, ap, sym, ◌∙◌}
use Rattle.std.specs.Prelude.{unwrap_or}
use Rattle.std.proofs.lemmas.Option.{none-some}
use Rattle.est_kernel.specs.declared.interface.Declaration.{Declaration}
use Rattle.est_kernel.specs.declared.kernel.Kernel.{Kernel}
use Rattle.est_kernel.specs.declared.limits.Limit.{Limit}
use Rattle.est_reduce.specs.Bodies.{Body}
use Rattle.est_reduce.specs.Reducing.{IsFaultOf, IsKernelOf}
use Rattle.est_reduce.specs.declared.fault.ReduceFault.{ReduceFault}
use Rattle.est_reduce.specs.declared.fault.ReduceFault.TheVariants.{TooLarge, InstantLoop, Memory}

some_same : (a b : Limit) → Some a ≡ Some b → a ≡ b
some_same a b e = ap (λ o. unwrap_or o a) e

-- two faults of a body are one, unless memory was refused
pub one_fault : (p : Body) (a b : ReduceFault) → IsFaultOf p a → IsFaultOf p b → (a ≡ b) ⊎ (a ≡ Memory) ⊎ (b ≡ Memory)
one_fault p (TooLarge l) (TooLarge m) h k = inl (ap TooLarge (some_same l m (sym h ∙ k)))
one_fault p (TooLarge l) InstantLoop h k = absurd (none-some l (sym k.0 ∙ h))
one_fault p (TooLarge l) Memory h k = inr (inr refl)
one_fault p InstantLoop (TooLarge m) h k = absurd (none-some m (sym h.0 ∙ k))
one_fault p InstantLoop InstantLoop h k = inl refl
one_fault p InstantLoop Memory h k = inr (inr refl)
one_fault p Memory b h k = inr (inl refl)

-- where a body has a kernel, it has no fault
pub never_both : (interface : List Declaration) (p : Body) (a : Kernel) (b : ReduceFault) → IsKernelOf interface p a
    → IsFaultOf p b → b ≡ Memory
never_both interface p a (TooLarge l) h k = absurd (none-some l (sym h.within_limits ∙ k))
never_both interface p a InstantLoop h k = absurd (k.1 h.loop_safe)
never_both interface p a Memory h k = refl
