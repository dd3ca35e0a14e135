-- What an event does to the journals.
use Rattle.std.proofs.Common.{◌≡◌, ℕ, List, [], ◌∷◌, ◌++◌, append-nil, set, take, refl, sym, ◌∙◌, ap, inr, subst}
use Rattle.std.proofs.Common.{⊎_elim}
use Rattle.std.specs.Prelude.{Option, Some, None, Result, Ok, Err, MatchResult, slice_get, option_map}
use Rattle.std.specs.List.{range_with_len}
use Rattle.std.proofs.lemmas.Option.{slice_get_within, slice_get-map}
use Rattle.refusal_rules.specs.Rules.{accept, ◌▸◌}
use Rattle.refusal_rules.proofs.RuleLemmas.{answered, first_or_none}
use Rattle.rbac_policy.specs.declared.commands.AdminCommand.{AdminCommand}
use Rattle.rbac_policy.specs.declared.commands.Entry.{Entry}
use Rattle.rbac_policy.proofs.OfSlots.Slots.{get_set_same, get_set_other}
use Rattle.rbac_admin.specs.declared.refusal.PolicyRefusal.{PolicyRefusal}
use Rattle.reactor_core.specs.declared.entry.SlotEntry.{SlotEntry}
use Rattle.access_core.specs.declared.command.SlotCommand.{SlotCommand}
use Rattle.access_core.specs.declared.refusal.Refusal.{Refusal}
use Rattle.access_core.specs.declared.refusal.Refusal.TheVariants.{Policy}
use Rattle.access_core.specs.declared.reply.Reply.{Reply}
use Rattle.access_core.specs.declared.reply.Reply.TheVariants.{Refused}
use Rattle.access_core.specs.Answering.{IsRefused, ByRules, no_memory}
use Rattle.access_core.specs.SlotState.{SlotState}
use Rattle.access_core.specs.SlotStep.{no_session}
use Rattle.access_core.specs.Desk.{DeskState, desk_at, AdminStep, DeskStep, InSlot, Appends, list_full, no_slot}
use Rattle.access_core.specs.Desk.{empty_slot}
use Rattle.history_events.specs.Runs.{WorldState, opening_world, journal_in, journal_at, desk_of, Judged, version_rules}
use Rattle.history_events.specs.SlotAdditions.{ChangesJournal}
use Rattle.history_events.proofs.Moving.{not_accepted, moves}

-- the journal of the slot of this number
abbrev pub journal_of : List SlotState → ℕ → List SlotEntry
journal_of slots number = journal_in (slice_get slots number)

-- at the opening each journal is empty
pub opening_journal : (slot : ℕ) → journal_at opening_world slot ≡ []
opening_journal slot = ap journal_in (slice_get-map empty_slot (range_with_len 0 16) slot)
    ∙ no_entries (slice_get (range_with_len 0 16) slot) where
      no_entries : (o : Option ℕ) → journal_in (option_map empty_slot o) ≡ []
      no_entries None = refl
      no_entries (Some n) = refl

-- a command in the slot of this number changes that slot's journal alone
pub record MovesAt (entries : List Entry) (number session : ℕ) (command : SlotCommand) (before : List SlotState)
    (reply : Reply) (after : List SlotState) : Type 0 where
  pub here : ChangesJournal entries session command (journal_of before number) reply (journal_of after number)
  pub others : (other : ℕ) → (other ≡ number → ⊥) → journal_of after other ≡ journal_of before other

module _ (number session : ℕ) (command : SlotCommand) (reply : Reply) where
  -- a refusal changes none
  pub no_move : (entries : List Entry) (before after : List SlotState) (refusal : Refusal) → reply ≡ Refused refusal
      → after ≡ before
      → MovesAt entries number session command before reply after
  no_move entries before after refusal refused same = record {
    here = inr
        (record { no_more = not_accepted reply refusal refused; stays = ap (λ slots. journal_of slots number) same });
    others = λ other apart. ap (λ slots. journal_of slots other) same;
  }

  in_slot : (before after : DeskState) → InSlot number session command before reply after
      → MovesAt before.entries number session command before.slots reply after.slots
  in_slot before after h =
      let new : SlotState = record h.slot { journal = h.journal } in
      let slots : after.slots ≡ set before.slots number new = ap (λ (d : DeskState). d.slots) h.stored in
      let was : journal_of before.slots number ≡ h.slot.journal = ap journal_in h.there in
      let is : journal_of after.slots number ≡ h.journal =
      ap (λ slots. journal_of slots number) slots ∙ ap journal_in
      (get_set_same before.slots number new (slice_get_within before.slots number h.slot h.there)) in
      record {
        here = subst (λ j. ChangesJournal before.entries session command j reply (journal_of after.slots number))
            (sym was)
            (subst (λ j. ChangesJournal before.entries session command h.slot.journal reply j) (sym is)
            (moves before.entries number session h.slot.journal reply h.journal command h.step));
        others = λ other apart. ap (λ slots. journal_of slots other) slots
            ∙ ap journal_in (get_set_other before.slots number other new apart);
      }

  pub desk_moves : (before after : DeskState) → DeskStep number session command before reply after
      → MovesAt before.entries number session command before.slots reply after.slots
  desk_moves before after =
      answered (no_session before.entries session ▸ no_slot number ▸ accept)
      (λ refusal. IsRefused refusal before reply after)
      (InSlot number session command before reply after)
      (MovesAt before.entries number session command before.slots reply after.slots)
      (λ refusal h. no_move before.entries before.slots after.slots refusal h.replied
      (ap (λ (d : DeskState). d.slots) h.stays))
      (in_slot before after)

-- a policy command leaves the slots
pub slots_stay : (session : Option ℕ) (command : AdminCommand) (before : DeskState) (reply : Reply) (after : DeskState)
    → AdminStep session command before reply after → after.slots ≡ before.slots
slots_stay session command before reply after h = by_answer h.answer h.replied where
  by_answer : (answer : Result Entry PolicyRefusal)
      → MatchResult answer
      (λ entry. ByRules (list_full before.entries entry ▸ no_memory ▸ accept) (Appends entry) before reply after)
      (λ refusal. IsRefused (Policy refusal) before reply after)
      → after.slots ≡ before.slots
  by_answer (Ok entry) =
      answered (list_full before.entries entry ▸ no_memory ▸ accept) (λ refusal. IsRefused refusal before reply after)
      (Appends entry before reply after) (after.slots ≡ before.slots)
      (λ refusal h. ap (λ (d : DeskState). d.slots) h.stays)
      (λ h. ap (λ (d : DeskState). d.slots) h.appended)
  by_answer (Err refusal) = λ h. ap (λ (d : DeskState). d.slots) h.stays

-- a policy command only appends
pub record Lengthens (before after : List Entry) : Type 0 where
  pub more : List Entry
  pub is : after ≡ before ++ more

pub entries_stay : (session : Option ℕ) (command : AdminCommand) (before : DeskState) (reply : Reply)
    (after : DeskState)
    → AdminStep session command before reply after → Lengthens before.entries after.entries
entries_stay session command before reply after h = by_answer h.answer h.replied where
  same : (refusal : Refusal) → IsRefused refusal before reply after → Lengthens before.entries after.entries
  same refusal h =
      record { more = []; is = ap (λ (d : DeskState). d.entries) h.stays ∙ sym (append-nil before.entries) }

  by_answer : (answer : Result Entry PolicyRefusal)
      → MatchResult answer
      (λ entry. ByRules (list_full before.entries entry ▸ no_memory ▸ accept) (Appends entry) before reply after)
      (λ refusal. IsRefused (Policy refusal) before reply after)
      → Lengthens before.entries after.entries
  by_answer (Ok entry) =
      answered (list_full before.entries entry ▸ no_memory ▸ accept) (λ refusal. IsRefused refusal before reply after)
      (Appends entry before reply after) (Lengthens before.entries after.entries)
      same
      (λ h. record { more = entry ∷ []; is = ap (λ (d : DeskState). d.entries) h.appended })
  by_answer (Err refusal) = same _

-- an event on a slot changes that slot's journal alone
pub event_moves : (seat version slot session : ℕ) (command : SlotCommand) (before : WorldState) (reply : Reply)
    (after : WorldState)
    → ByRules (version_rules before seat version slot) (Judged seat version slot session command) before reply after
    → MovesAt (take version before.entries) slot session command before.slots reply after.slots
event_moves seat version slot session command before reply after h =
    ⊎_elim
    (λ first. no_move slot session command reply (take version before.entries) before.slots after.slots first.0
    first.2.replied
    (ap (λ (w : WorldState). w.slots) first.2.stays))
    (λ passed. desk_moves slot session command reply (desk_at version (desk_of before))
    (desk_at version (desk_of after)) passed.1.step)
    (first_or_none (version_rules before seat version slot) (λ refusal. IsRefused refusal before reply after)
    (Judged seat version slot session command before reply after) h)
