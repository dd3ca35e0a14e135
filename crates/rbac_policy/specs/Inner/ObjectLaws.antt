-- The test of objects says yes exactly when the two are equal, so that it is an equality (this project's own form).
use Rattle.std.proofs.Common.{◌≡◌, Bool, true, false, ◌&&◌, Decides, ap, refl}
use Rattle.std.proofs.lemmas.Slice.Eq.{bytes_eq-Decides}
use Rattle.std.proofs.lemmas.Bool.{false≢true}
use Rattle.std.proofs.lemmas.Bool.Decides.{Decides-eqb}
use Rattle.std.specs.Cmp.{IsEquivalence, decided}
use Rattle.rbac_policy.specs.declared.objects.Object.{Object}
use Rattle.rbac_policy.specs.declared.objects.Object.TheVariants.{Policy, Slot, Signal}
use Rattle.rbac_policy.specs.Objects.{same_object}

pub both : (a b : Bool) (P Q : Type 0) → Decides a P → Decides b Q → Decides (a && b) (P × Q)
both true true P Q p q = (λ _. (p.0 refl, q.0 refl), λ _. refl)
both true false P Q p q = (λ t. absurd (false≢true t), λ h. q.1 h.1)
both false b P Q p q = (λ t. absurd (false≢true t), λ h. p.1 h.0)

pub objects : (a b : Object) → Decides (same_object a b) (a ≡ b)
objects Policy Policy = (λ _. refl, λ _. refl)
objects Policy (Slot b) = (λ t. absurd (false≢true t), λ e. cc)
objects Policy (Signal b t) = (λ h. absurd (false≢true h), λ e. cc)
objects (Slot a) Policy = (λ t. absurd (false≢true t), λ e. cc)
objects (Slot a) (Slot b) = (λ t. ap Slot ((Decides-eqb a b).0 t), λ e. (Decides-eqb a b).1 cc)
objects (Slot a) (Signal b t) = (λ h. absurd (false≢true h), λ e. cc)
objects (Signal a s) Policy = (λ h. absurd (false≢true h), λ e. cc)
objects (Signal a s) (Slot b) = (λ h. absurd (false≢true h), λ e. cc)
objects (Signal a s) (Signal b t) =
    let d = both _ _ _ _ (Decides-eqb a b) (bytes_eq-Decides s t) in
    (λ h. let p = d.0 h in let x : a ≡ b = p.0 in let y : s ≡ t = p.1 in cc, λ e. d.1 (cc, cc))

-- the laws that `==` of objects owes
pub object_equality : IsEquivalence same_object
object_equality = decided same_object objects
