-- What holds of the journal of each slot and of its history: of the empty journal, and still where an entry is added.
use Rattle.std.proofs.Common.{◌≡◌, ℕ, List, [], ◌∷◌, ◌++◌, refl, sym, ap, inl, inr, subst, take}
use Rattle.std.specs.Prelude.{slice_get}
use Rattle.std.proofs.lemmas.Bool.{cases_eq}
use Rattle.reactor_core.specs.declared.entry.SlotEntry.{SlotEntry}
use Rattle.access_core.specs.declared.command.SlotCommand.{SlotCommand}
use Rattle.history_events.specs.declared.event.Event.{Event}
use Rattle.history_events.specs.declared.event.Event.TheVariants.{Admin, OnSlot}
use Rattle.history_events.specs.SlotAdditions.{ChangesJournal, AddsMove, OnlyAsks}
use Rattle.history_events.specs.Entering.{Accepts, IsOn}
use Rattle.history_events.specs.Runs.{WorldState, Moment, EventStep, Comes, journal_in, journal_at, desk_of}
use Rattle.history_events.proofs.Following.{reached}
use Rattle.history_events.proofs.Placing.{opening_journal, slots_stay, event_moves}

-- a command that adds an entry, where it is accepted
abbrev pub Adds : SlotCommand → Type 0
Adds command = OnlyAsks command → ⊥

module _ (P : List Moment → (slot : ℕ) → List SlotEntry → Type 0)
    (idle : (past : List Moment) (m : Moment) (slot : ℕ) (journal : List SlotEntry) → (Accepts slot Adds m → ⊥)
    → P past slot journal → P (past ++ m ∷ []) slot journal)
    (grows : (past : List Moment) (m : Moment) (seat version slot session : ℕ) (command : SlotCommand)
    → m.event ≡ OnSlot seat version slot session command
    → AddsMove (take version m.before.entries) session command (journal_at m.before slot) m.reply
    (journal_at m.after slot)
    → P past slot (journal_at m.before slot) → P (past ++ m ∷ []) slot (journal_at m.after slot)) where
  -- it holds of each slot
  abbrev pub Each : List Moment → WorldState → Type 0
  Each past world = (slot : ℕ) → P past slot (journal_at world slot)

  module _ (past : List Moment) (m : Moment) (were : Each past m.before) where
    kept : (slot : ℕ) → journal_at m.after slot ≡ journal_at m.before slot → (Accepts slot Adds m → ⊥)
        → P (past ++ m ∷ []) slot (journal_at m.after slot)
    kept slot same none = subst (P (past ++ m ∷ []) slot) (sym same)
        (idle past m slot (journal_at m.before slot) none (were slot))

    here : (seat version slot session : ℕ) (command : SlotCommand) → m.event ≡ OnSlot seat version slot session command
        → ChangesJournal (take version m.before.entries) session command (journal_at m.before slot) m.reply
        (journal_at m.after slot)
        → P (past ++ m ∷ []) slot (journal_at m.after slot)
    here seat version slot session command is (inl a) = grows past m seat version slot session command is a (were slot)
    here seat version slot session command is (inr n) = kept slot n.stays
        (λ accepts. (subst (IsOn slot Adds) is accepts.0).1 (n.no_more accepts.1))

    by_event : (event : Event) → m.event ≡ event → EventStep event m.before m.reply m.after
        → Each (past ++ m ∷ []) m.after
    by_event (Admin seat session command) is step = λ slot.
        let slots : m.after.slots ≡ m.before.slots = slots_stay session command (desk_of m.before) m.reply
        (desk_of m.after) step.step in
        kept slot (ap (λ slots. journal_in (slice_get slots slot)) slots)
        (λ accepts. subst (IsOn slot Adds) is accepts.0)
    by_event (OnSlot seat version slot session command) is step = λ other.
        let h = event_moves seat version slot session command m.before m.reply m.after step in
        elim (cases_eq other slot) [
          | inl same ↦ subst (λ k. P (past ++ m ∷ []) k (journal_at m.after k)) (sym same)
              (here seat version slot session command is h.here)
          | inr apart ↦
              kept other (h.others other apart) (λ accepts. apart (sym (subst (IsOn other Adds) is accepts.0).0))
        ]

  -- each event keeps it
  pub still_each : (past : List Moment) (m : Moment) → Each past m.before → EventStep m.event m.before m.reply m.after
      → Each (past ++ m ∷ []) m.after
  still_each past m were step = by_event past m were m.event refl step

  -- so it holds before each moment of a run
  pub slotwise : ((slot : ℕ) → P [] slot []) → (past : List Moment) (m : Moment) → Comes past m → (slot : ℕ)
      → P past slot (journal_at m.before slot)
  slotwise opens past m comes =
      (reached Each still_each (λ slot. subst (P [] slot) (sym (opening_journal slot)) (opens slot)) past m comes).holds
