-- What the tests of operations and objects say.
use Rattle.std.proofs.Common.{◌≡◌, ℕ, zero, suc, Decides, sym, ◌∙◌, ap, refl}
use Rattle.std.proofs.lemmas.Bool.Decides.{Decides-eqb}
use Rattle.rbac_policy.specs.declared.objects.Operation.{Operation}
use Rattle.rbac_policy.specs.declared.objects.Operation.TheVariants.{Offer, Observe, Step, Load, Administer, Audit}
use Rattle.rbac_policy.specs.Objects.{operation_number, same_operation}

numbered : ℕ → Operation
numbered zero = Offer
numbered (suc zero) = Observe
numbered (suc (suc zero)) = Step
numbered (suc (suc (suc zero))) = Load
numbered (suc (suc (suc (suc zero)))) = Administer
numbered (suc (suc (suc (suc (suc n))))) = Audit

numbered-number : (a : Operation) → numbered (operation_number a) ≡ a
unfolding numbered
numbered-number Offer = refl
numbered-number Observe = refl
numbered-number Step = refl
numbered-number Load = refl
numbered-number Administer = refl
numbered-number Audit = refl

pub operations : (a b : Operation) → Decides (same_operation a b) (a ≡ b)
operations a b = (
  λ t. sym (numbered-number a) ∙ ap numbered ((Decides-eqb (operation_number a) (operation_number b)).0 t)
      ∙ numbered-number b,
  λ e. (Decides-eqb (operation_number a) (operation_number b)).1 (ap operation_number e),
)
