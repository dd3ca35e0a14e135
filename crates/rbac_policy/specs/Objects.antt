-- When two operations, and two objects, are equal (OPS and OBS of ANSI INCITS 359-2004; which there are is this
-- project's own form).
use Rattle.std.specs.Prelude.{ℕ, Bool, true, false, ◌&&◌, ◌==◌}
use Rattle.std.specs.Str.{bytes_eq}
use Rattle.rbac_policy.specs.declared.objects.Operation.{Operation}
use Rattle.rbac_policy.specs.declared.objects.Operation.TheVariants.{Offer, Observe, Step, Load, Administer, Audit}
use Rattle.rbac_policy.specs.declared.objects.Object.{Object}
use Rattle.rbac_policy.specs.declared.objects.Object.TheVariants.{Policy, Slot, Signal}

-- the place of the operation among the six
abbrev pub operation_number : Operation → ℕ
operation_number Offer = 0
operation_number Observe = 1
operation_number Step = 2
operation_number Load = 3
operation_number Administer = 4
operation_number Audit = 5

-- whether the two operations are equal
abbrev pub same_operation : Operation → Operation → Bool
same_operation a b = operation_number a == operation_number b

-- whether the two objects are equal: the policy, the same slot, or the same signal name in the same slot
abbrev pub same_object : Object → Object → Bool
same_object Policy Policy = true
same_object (Slot a) (Slot b) = a == b
same_object (Signal a s) (Signal b t) = a == b && bytes_eq s t
same_object _ _ = false
