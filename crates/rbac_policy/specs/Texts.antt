-- Operations and objects as text (this project's own form).
use Rattle.std.specs.Prelude.{ℕ, ◌+◌, ◌-◌, ◌<◌, ◌*◌, ◌&&◌, ◌==◌, nat_le, nat_lt, IsTrue, List, [], ◌∷◌, ◌++◌, codes}
use Rattle.std.specs.Prelude.{decimal, Option, Some, None, option_and_then, if◌then◌else◌}
use Rattle.std.specs.Str.{bytes_eq}
use Rattle.est_text.specs.Identifiers.{is_identifier}
use Rattle.rbac_policy.specs.declared.objects.Operation.{Operation}
use Rattle.rbac_policy.specs.declared.objects.Operation.TheVariants as operation
use Rattle.rbac_policy.specs.declared.objects.Object.{Object}
use Rattle.rbac_policy.specs.declared.objects.Object.TheVariants as object
use Rattle.rbac_policy.specs.declared.objects.TheConstants.{SLOTS}

-- the name of an operation
abbrev pub operation_text : Operation → List ℕ
operation_text operation.Offer = codes "offer"
operation_text operation.Observe = codes "observe"
operation_text operation.Step = codes "step"
operation_text operation.Load = codes "load"
operation_text operation.Administer = codes "administer"
operation_text operation.Audit = codes "audit"

-- the text of an object: `policy`, the slot's number, or the slot's number, a full stop and the signal's name
abbrev pub object_text : Object → List ℕ
object_text object.Policy = codes "policy"
object_text (object.Slot k) = decimal k
object_text (object.Signal k signal) = decimal k ++ 46 ∷ signal

-- a slot is one of those that there are, and signals are named by identifiers
abbrev pub IsObject : Object → Type 0
IsObject object.Policy = Unit {0}
IsObject (object.Slot k) = k < SLOTS
IsObject (object.Signal k signal) = (k < SLOTS) × IsTrue (is_identifier signal)

-- the operation of a name
unfoldable pub operation_of : List ℕ → Option Operation
operation_of text =
    if bytes_eq text (codes "offer") then Some operation.Offer
    else (if bytes_eq text (codes "observe") then Some operation.Observe
    else (if bytes_eq text (codes "step") then Some operation.Step
    else (if bytes_eq text (codes "load") then Some operation.Load
    else (if bytes_eq text (codes "administer") then Some operation.Administer
    else (if bytes_eq text (codes "audit") then Some operation.Audit
    else None)))))

-- the slot of this number, if there is one, and what follows it
abbrev pub slot_before : ℕ → List ℕ → Option (ℕ × List ℕ)
slot_before k rest = if nat_lt k SLOTS then Some (k, rest) else None

-- the slot of the digit at the front, and what follows it
abbrev pub units_slot_at : List ℕ → Option (ℕ × List ℕ)
units_slot_at [] = None
units_slot_at (unit ∷ rest) = if nat_le 48 unit && nat_le unit 57 then slot_before (unit - 48) rest else None

-- the slot's number at the front, of two digits where they can be taken, and what follows it
unfoldable pub slot_at : List ℕ → Option (ℕ × List ℕ)
slot_at [] = None
slot_at (ten ∷ []) = units_slot_at (ten ∷ [])
slot_at (ten ∷ unit ∷ rest) =
    if (nat_le 49 ten && nat_le ten 57) && (nat_le 48 unit && nat_le unit 57) then slot_before
    (10 * (ten - 48) + (unit - 48)) rest
    else units_slot_at (ten ∷ unit ∷ rest)

-- the object of a slot, and of what follows it
abbrev pub object_in : ℕ → List ℕ → Option Object
object_in k [] = Some (object.Slot k)
object_in k (stop ∷ signal) = if (stop == 46) && is_identifier signal then Some (object.Signal k signal) else None

-- the object of a text
unfoldable pub object_of : List ℕ → Option Object
object_of text = if bytes_eq text (codes "policy") then Some object.Policy else option_and_then
    (λ found. object_in found.0 found.1) (slot_at text)
