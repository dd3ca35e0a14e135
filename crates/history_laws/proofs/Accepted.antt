-- What is lawful is accepted: the call of which a receipt tells, where it comes next.
use Rattle.std.proofs.Common.{◌≡◌, ◌∙◌, ℕ, ◌+◌, ◌<◌, ◌≤◌, List, [], ◌∷◌, ◌++◌, length, take, refl, sym, ap, subst}
use Rattle.std.proofs.Common.{arith, Option, Some, None, ⊎_elim}
use Rattle.std.specs.Prelude.{fold, slice_get, slice_set, slice_index_or}
use Rattle.std.proofs.Math.Seq.{take-length}
use Rattle.std.proofs.lemmas.List.{length-append, append_cancel_left}
use Rattle.std.proofs.lemmas.Option.{slice_get_within}
use Rattle.refusal_rules.specs.Rules.{Rules, AllPass, ◌▸▸◌}
use Rattle.refusal_rules.proofs.RuleLemmas.{all_passed, pass}
use Rattle.rbac_policy.specs.declared.commands.Entry.{Entry}
use Rattle.rbac_policy.specs.declared.objects.Object.{Object}
use Rattle.rbac_policy.specs.declared.objects.Operation.{Operation}
use Rattle.rbac_policy.specs.declared.objects.TheConstants.{SLOTS}
use Rattle.rbac_policy.specs.Facts.{IsLive}
use Rattle.rbac_policy.proofs.OfSlots.Slots.{get_set_same}
use Rattle.rbac_admin.specs.PolicyLists.{IsAccepted as MayFollow}
use Rattle.reactor_core.specs.declared.entry.SlotEntry.{SlotEntry}
use Rattle.reactor_core.specs.Meaning.{asked, entry, word_of}
use Rattle.access_core.specs.declared.command.SlotCommand.{SlotCommand}
use Rattle.access_core.specs.declared.refusal.Refusal.{Refusal}
use Rattle.access_core.specs.declared.reply.Reply.{Reply}
use Rattle.access_core.specs.Answering.{IsRefused}
use Rattle.access_core.specs.Desk.{accepted_reply, change_of}
use Rattle.access_core.specs.declared.command.SlotCommand.TheVariants.{Move}
use Rattle.access_core.specs.Journals.{last_version as version_of_last, IsLegalEntry}
use Rattle.access_core.specs.Needs.{permission_of}
use Rattle.access_core.specs.SlotState.{SlotState}
use Rattle.access_core.specs.SlotStep.{SlotStep, slot_rules, access_rules, journal_rules, Does, stamp_of, tells_added}
use Rattle.access_core.proofs.Legality.{IsTaken, moves}
use Rattle.history_events.specs.declared.event.TheConstants.{SEATS}
use Rattle.history_events.specs.declared.event.Event.TheVariants as event
use Rattle.history_events.specs.Runs.{WorldState, Moment, EventStep, journal_in, journal_at, last_version, has_seen}
use Rattle.history_events.specs.Runs.{newest_known}
use Rattle.history_events.proofs.Moving.{not_accepted}
use Rattle.history_events.proofs.Changes.{accepted_change}
use Rattle.history_receipts.specs.declared.receipt.SlotReceipt.{SlotReceipt}
use Rattle.history_merge.specs.OneList.{Tells as TellsEntry}
use Rattle.history_laws.specs.CallsInTurn.{IsPolicyCall, IsSlotCall}

-- ---- policy commands

-- the call by which the seat adds the policy entry
abbrev pub policy_moment : (seat : ℕ) → Entry → WorldState → Moment
policy_moment seat entry world = record {
  before = world;
  event = event.Admin seat entry.session entry.command;
  reply = accepted_reply world.entries entry.command;
  after = record {
    entries = world.entries ++ entry ∷ [];
    slots = world.slots;
    seen = has_seen seat (length (world.entries ++ entry ∷ [])) world.seen;
  };
}

module _ (seat : ℕ) (entry : Entry) (world : WorldState) where
  abbrev Made : Moment
  Made = policy_moment seat entry world

  pub policy_step : MayFollow world.entries entry → EventStep Made.event world Made.reply Made.after
  policy_step may = record {
    step = record {
      answer = _;
      given = may.step;
      replied = pass may.room (pass tt (record { replied = refl; appended = refl }));
    };
    seen = refl;
  }

  pub policy_call : (version : ℕ) → seat < SEATS → version ≡ length world.entries + 1
      → IsPolicyCall seat version entry Made
  policy_call version seated next = record {
    seated = seated;
    is = refl;
    accepted = accepted_change (change_of entry.command) world.entries;
    told = refl;
    added = refl;
    makes = length-append world.entries (entry ∷ []) ∙ sym next;
  }

-- ---- commands on slots

-- the version of the last entry is that of the last
same_last : (from : ℕ) (journal : List SlotEntry)
    → last_version from journal ≡ fold (λ (version : ℕ) (e : SlotEntry). e.stamp.version) from journal
same_last from [] = refl
same_last from (e ∷ later) = same_last e.stamp.version later

-- who may give a command lives
lives : (entries : List Entry) (session : ℕ) (needed : Option (Operation × Object)) (later : Rules Refusal)
    → AllPass (access_rules entries session needed ▸▸ later) → IsLive entries session
lives entries session None later all = all.0
lives entries session (Some permission) later all = all.0

-- the receipt's entry comes next: it is legal after what stands in the slot, at the version that the world has
pub record IsNext (policy : List Entry) (seat : ℕ) (r : SlotReceipt) (e : SlotEntry) (slot : SlotState)
    (world : WorldState)
    : Type 0 where
  pub there : slice_get world.slots r.slot ≡ Some slot
  pub inside : r.slot < SLOTS
  pub now : r.version ≡ length world.entries
  pub begun : take (length world.entries) policy ≡ world.entries
  pub tells : TellsEntry r e
  pub place : r.place ≡ length slot.journal + 1
  pub legal : IsLegalEntry policy r.slot slot.journal e
  pub seen : slice_index_or world.seen seat 0 ≤ length world.entries

-- the call by which the seat adds the entry to the slot, where it is answered so
abbrev pub slot_moment : (seat : ℕ) → SlotReceipt → SlotEntry → SlotState → WorldState → Reply → Moment
slot_moment seat r e slot world reply = record {
  before = world;
  event = event.OnSlot seat r.version r.slot r.session (Move (asked e.done));
  reply = reply;
  after = record {
    entries = world.entries;
    slots = slice_set world.slots r.slot (let new : SlotState = record slot { journal = slot.journal ++ e ∷ [] } in
        new);
    seen = has_seen seat r.version world.seen;
  };
}

module _ (policy : List Entry) (seat : ℕ) (r : SlotReceipt) (e : SlotEntry) (slot : SlotState) (world : WorldState)
    (next : IsNext policy seat r e slot world) where
  abbrev reply : Reply
  reply = next.legal.added.reply

  abbrev Given : Moment
  Given = slot_moment seat r e slot world reply

  abbrev Step : List Entry → (session : ℕ) → Type 0
  Step judged session = SlotStep judged r.slot session (Move (asked e.done)) slot.journal reply (slot.journal ++ e ∷ [])

  judged : take e.stamp.version policy ≡ take r.version world.entries
  judged =
      let here : take r.version world.entries ≡ world.entries =
      ap (λ n. take n world.entries) next.now ∙ take-length world.entries in
      ap (λ n. take n policy) (sym next.tells.version ∙ next.now) ∙ next.begun ∙ sym here

  steps : Step (take r.version world.entries) r.session
  steps =
      subst (Step (take r.version world.entries)) (sym next.tells.session)
      (subst (λ list. Step list e.stamp.session) judged next.legal.added.step)

  alive : IsLive (take r.version world.entries) r.session
  alive =
      let list : List Entry = take r.version world.entries in
      let command : SlotCommand = Move (asked e.done) in
      let passed = all_passed (slot_rules list r.slot r.session command slot.journal)
      (λ refusal. IsRefused refusal slot.journal reply (slot.journal ++ e ∷ []))
      (Does list r.slot r.session command slot.journal reply (slot.journal ++ e ∷ []))
      (λ refusal h. not_accepted reply refusal h.replied next.legal.added.accepted) steps in
      lives list r.session (permission_of r.slot command) (journal_rules list r.slot r.session command slot.journal)
      passed.0

  was : journal_at world r.slot ≡ slot.journal
  was = ap journal_in next.there

  newest : newest_known world seat r.slot ≤ r.version
  newest =
      let same : last_version 0 (journal_at world r.slot) ≡ version_of_last slot.journal =
      ap (last_version 0) was ∙ same_last 0 slot.journal in
      let rises : version_of_last slot.journal ≤ e.stamp.version = next.legal.version.rises in
      let version = next.tells.version in
      let now = next.now in
      let seen = next.seen in
      omega arith

  pub slot_step : EventStep Given.event world Given.reply Given.after
  slot_step =
      let now = next.now in
      pass newest (pass (omega arith) (record {
        step = pass alive (pass next.inside (record {
          slot = slot;
          there = next.there;
          journal = slot.journal ++ e ∷ [];
          step = steps;
          stored = refl;
        }));
        entries = refl;
        seen = refl;
      }))

  pub slot_after : journal_at Given.after r.slot ≡ slot.journal ++ e ∷ []
  slot_after = ap journal_in (get_set_same world.slots r.slot _ (slice_get_within world.slots r.slot slot next.there))

  -- the slot step adds one entry that the command asks for, and the reply tells so
  told : reply ≡ tells_added (word_of e.done) r.version (journal_at Given.after r.slot)
  told =
      let list : List Entry = take r.version world.entries in
      let after : List SlotEntry = slot.journal ++ e ∷ [] in
      let command : SlotCommand = Move (asked e.done) in
      let taken : IsTaken (stamp_of list r.session) command slot.journal reply after =
      ⊎_elim (λ left. absurd (not_accepted reply left.refusal left.is.replied next.legal.added.accepted))
      (⊎_elim (λ asks. absurd (asks.adds_none e.done refl)) (λ taken. taken))
      (moves list r.slot r.session slot.journal reply after command steps) in
      let last : entry (stamp_of list r.session) taken.done ∷ [] ≡ e ∷ [] =
      append_cancel_left slot.journal _ _ (sym taken.added) in
      let same : entry (stamp_of list r.session) taken.done ≡ e = cc in
      let long : length list ≡ r.version =
      ap length (ap (λ n. take n world.entries) next.now ∙ take-length world.entries) ∙ sym next.now in
      taken.told ∙ ap (λ (x : SlotEntry). tells_added (word_of x.done) (length list) after) same
      ∙ ap (λ n. tells_added (word_of e.done) n after) long
      ∙ ap (tells_added (word_of e.done) r.version) (sym slot_after)

  pub slot_call : seat < SEATS → IsSlotCall seat r Given
  slot_call seated = record {
    seated = seated;
    done = e.done;
    word = sym next.tells.word;
    signal = sym next.tells.signal;
    is = refl;
    accepted = next.legal.added.accepted;
    told = told ∙ ap (λ w. tells_added w r.version (journal_at Given.after r.slot)) (sym next.tells.word);
    place = ap length slot_after ∙ length-append slot.journal (e ∷ []) ∙ sym next.place;
  }
