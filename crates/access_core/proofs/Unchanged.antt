-- A refusal leaves desk and slots as they were.
use Rattle.std.proofs.Common.{◌≡◌, ℕ, List, [], ◌∷◌, refl, sym, ◌∙◌, ap}
use Rattle.std.specs.Prelude.{zero, suc, Option, Some, None, Result, Ok, Err, MatchResult, slice_get, slice_set}
use Rattle.refusal_rules.specs.Rules.{accept, ◌▸◌}
use Rattle.refusal_rules.proofs.RuleLemmas.{answered, all_passed}
use Rattle.rbac_policy.specs.declared.commands.Entry.{Entry}
use Rattle.rbac_policy.specs.declared.commands.AdminCommand.{AdminCommand}
use Rattle.rbac_admin.specs.declared.refusal.PolicyRefusal.{PolicyRefusal}
use Rattle.reactor_core.specs.declared.entry.SlotEntry.{SlotEntry}
use Rattle.access_core.specs.declared.command.SlotCommand.{SlotCommand}
use Rattle.access_core.specs.declared.refusal.Refusal.{Refusal}
use Rattle.access_core.specs.declared.refusal.Refusal.TheVariants.{Policy}
use Rattle.access_core.specs.declared.reply.PolicyWord.{PolicyWord}
use Rattle.access_core.specs.declared.reply.Reply.{Reply}
use Rattle.access_core.specs.declared.reply.Reply.TheVariants.{Refused}
use Rattle.access_core.specs.Answering.{IsRefused, ByRules, no_memory}
use Rattle.access_core.specs.SlotState.{SlotState}
use Rattle.access_core.specs.SlotStep.{SlotStep, stamp_of, no_session}
use Rattle.access_core.specs.Needs.{Needs, IsAccepted}
use Rattle.access_core.proofs.Deciding.{not_refused, accepted_access, has_needed}
use Rattle.access_core.proofs.Legality.{moves, refused_stays}
use Rattle.access_core.specs.Desk.{DeskState, AdminStep, DeskStep, InSlot, Appends, list_full, no_slot, reply_of_change}
use Rattle.access_core.specs.Desk.{change_of}

-- a place that is set to what stands there
pub same_place : (slots : List SlotState) (number : ℕ) (slot : SlotState) → slice_get slots number ≡ Some slot
    → slice_set slots number slot ≡ slots
same_place [] number slot there = refl
same_place (first ∷ others) zero slot there = let e : first ≡ slot = cc in ap (λ s. s ∷ others) (sym e)
same_place (first ∷ others) (suc number) slot there = ap (λ slots. first ∷ slots) (same_place others number slot there)

-- the reply to an accepted command is not a refusal
not_accepted : (change : Option PolicyWord) (entries : List Entry) (refusal : Refusal)
    → Refused refusal ≡ reply_of_change change entries → ⊥
not_accepted None entries refusal e = cc
not_accepted (Some change) entries refusal e = cc

appends_nothing : (entry : Entry) (before : DeskState) (refusal : Refusal) (after : DeskState)
    → Appends entry before (Refused refusal) after → after ≡ before
appends_nothing entry before refusal after appends = absurd
    (not_accepted (change_of entry.command) before.entries refusal appends.replied)

admin_replied : (answer : Result Entry PolicyRefusal) (before : DeskState) (refusal : Refusal) (after : DeskState)
    → MatchResult answer
    (λ entry. ByRules (list_full before.entries entry ▸ no_memory ▸ accept) (Appends entry) before
    (Refused refusal) after)
    (λ given. IsRefused (Policy given) before (Refused refusal) after)
    → after ≡ before
admin_replied (Ok entry) before refusal after h =
    answered (list_full before.entries entry ▸ no_memory ▸ accept)
    (λ given. IsRefused given before (Refused refusal) after)
    (Appends entry before (Refused refusal) after) (after ≡ before) (λ given refused. refused.stays)
    (appends_nothing entry before refusal after) h
admin_replied (Err given) before refusal after h = h.stays

-- a refused policy command leaves the desk
pub admin_refused : (session : Option ℕ) (command : AdminCommand) (before : DeskState) (refusal : Refusal)
    (after : DeskState)
    → AdminStep session command before (Refused refusal) after → after ≡ before
admin_refused session command before refusal after step = admin_replied step.answer before refusal after step.replied

-- a refused slot command leaves the journal
journal_stays : (entries : List Entry) (slot session : ℕ) (command : SlotCommand) (before : List SlotEntry)
    (refusal : Refusal) (after : List SlotEntry)
    → SlotStep entries slot session command before (Refused refusal) after → after ≡ before
journal_stays entries slot session command before refusal after step =
    refused_stays (stamp_of entries session) command before refusal after
    (moves entries slot session before (Refused refusal) after command step)

in_slot_stays : (number session : ℕ) (command : SlotCommand) (before : DeskState) (refusal : Refusal)
    (after : DeskState)
    → InSlot number session command before (Refused refusal) after → after ≡ before
in_slot_stays number session command before refusal after h =
    let e : h.journal ≡ h.slot.journal = journal_stays before.entries number session command h.slot.journal refusal
    h.journal h.step in
    h.stored ∙ ap (λ slots. record before { slots = slots })
    (ap (λ journal. slice_set before.slots number (record h.slot { journal = journal })) e
    ∙ same_place before.slots number h.slot h.there)

-- a refused slot command leaves the desk
pub slot_refused : (number session : ℕ) (command : SlotCommand) (before : DeskState) (refusal : Refusal)
    (after : DeskState)
    → DeskStep number session command before (Refused refusal) after → after ≡ before
slot_refused number session command before refusal after =
    answered (no_session before.entries session ▸ no_slot number ▸ accept)
    (λ given. IsRefused given before (Refused refusal) after)
    (InSlot number session command before (Refused refusal) after) (after ≡ before) (λ given refused. refused.stays)
    (in_slot_stays number session command before refusal after)

-- a slot command is accepted only from a session that has what it needs
pub accepted_is_allowed : (number session : ℕ) (command : SlotCommand) (before : DeskState) (reply : Reply)
    (after : DeskState)
    → DeskStep number session command before reply after → IsAccepted reply
    → Needs before.entries number session command
accepted_is_allowed number session command before reply after h is =
    let in_slot =
    (all_passed (no_session before.entries session ▸ no_slot number ▸ accept)
    (λ refusal. IsRefused refusal before reply after)
    (InSlot number session command before reply after) (not_refused is) h).1 in
    has_needed before.entries number session command
    (accepted_access before.entries number session command in_slot.slot.journal reply in_slot.journal is in_slot.step)
