-- The first finding of a list or a journal, as that of all of them.
use Rattle.std.proofs.Common.{◌≡◌, ℕ, List, sym, subst, refl}
use Rattle.std.specs.Prelude.{Some, Result, Ok, Err, slice_get, OnOk, IfErr}
use Rattle.rbac_policy.specs.declared.commands.Entry.{Entry}
use Rattle.rbac_admin.specs.PolicyLists.{IsPolicyList}
use Rattle.reactor_core.specs.declared.entry.SlotEntry.{SlotEntry}
use Rattle.audit_report.specs.declared.finding.Finding.{Finding}
use Rattle.audit_report.specs.declared.finding.Finding.TheVariants.{Policy, Version, Refused, Reaction, Memory}
use Rattle.audit_report.specs.Findings.{IsPolicyFinding, AreSlotsLegal, IsFirstOfSlot, IsFirstInSlots, IsFirst}
use Rattle.audit_report.specs.Findings.{HaveNoFinding, IsVerdict}

module _ (entries : List Entry) (slots : List (List SlotEntry)) (slot : ℕ) (journal : List SlotEntry)
    (policy : IsPolicyList entries)
    (earlier : AreSlotsLegal entries slots slot) (there : slice_get slots slot ≡ Some journal) where
  in_slots : (finding : Finding) → IsFirstOfSlot entries slot journal finding
      → IsFirstInSlots entries slots slot finding
  in_slots finding h = record { policy = policy; earlier = earlier; journal = journal; there = there; finds = h }

  -- the first finding of a slot's journal is the first of all, where those before it have none
  pub first_of_slot : (finding : Finding) → IsFirstOfSlot entries slot journal finding → IsFirst entries slots finding
  first_of_slot (Policy place) h = absurd h
  first_of_slot (Version number place) h =
      subst (λ k. IsFirstInSlots entries slots k (Version k place)) (sym h.0)
      (in_slots (Version slot place) (refl, h.1))
  first_of_slot (Refused number place code) h =
      subst (λ k. IsFirstInSlots entries slots k (Refused k place code)) (sym h.0)
      (in_slots (Refused slot place code) (refl, h.1))
  first_of_slot (Reaction number place) h =
      subst (λ k. IsFirstInSlots entries slots k (Reaction k place)) (sym h.0)
      (in_slots (Reaction slot place) (refl, h.1))
  first_of_slot Memory h = tt
