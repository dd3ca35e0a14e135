-- Whether an entry stands in the place of a receipt.
use Rattle.std.proofs.Common.{◌≡◌, ℕ, ◌-◌, ◌<◌, ◌≤◌, Bool, List, length, Some, None, Decides, sym, ap, ◌∙◌, subst}
use Rattle.std.specs.Prelude.{slice_get}
use Rattle.rbac_policy.specs.declared.commands.Entry.{Entry}
use Rattle.rbac_policy.specs.declared.objects.TheConstants.{SLOTS}
use Rattle.reactor_core.specs.declared.entry.SlotEntry.{SlotEntry}
use Rattle.history_receipts.specs.declared.receipt.SlotReceipt.{SlotReceipt}
use Rattle.history_receipts.specs.declared.receipt.Kept.TheVariants.{Slot}
use Rattle.rbac_policy.specs.declared.sizes.TheConstants.{OPENING_ENTRIES}
use Rattle.history_merge.specs.Order.{part_at}
use Rattle.history_merge.specs.OneList.{Tells}
use Rattle.history_merge.specs.Mismatches.{IsThere}

some_one : {A : Type 0} (a b : A) → Some a ≡ Some b → a ≡ b
some_one a b e = cc

pub told : (policy : List Entry) (journals : List (List SlotEntry)) (r : SlotReceipt) (e : SlotEntry) (b : Bool)
    → r.slot < SLOTS → 0 < r.place → OPENING_ENTRIES ≤ r.version → r.version ≤ length policy
    → slice_get (part_at journals r.slot) (r.place - 1) ≡ Some e → Decides b (Tells r e)
    → Decides b (IsThere policy journals (Slot r))
told policy journals r e b slot place low high here d = (
  λ t. (slot, place, (e, here, d.0 t), low, high),
  λ h. d.1 (subst (Tells r) (some_one h.2.0 e (sym h.2.1 ∙ here)) h.2.2),
)

pub untold : (policy : List Entry) (journals : List (List SlotEntry)) (r : SlotReceipt)
    → slice_get (part_at journals r.slot) (r.place - 1) ≡ None → IsThere policy journals (Slot r) → ⊥
untold policy journals r none h = (let found = h.2.1 in absurd cc)

pub entered : (policy : List Entry) (version : ℕ) (entry found : Entry) (b : Bool) → OPENING_ENTRIES < version
    → slice_get policy (version - 1) ≡ Some found → Decides b (found ≡ entry)
    → Decides b ((OPENING_ENTRIES < version) × (slice_get policy (version - 1) ≡ Some entry))
entered policy version entry found b four here d = (
  λ t. (four, here ∙ ap Some (d.0 t)),
  λ h. d.1 (some_one found entry (sym here ∙ h.1)),
)
