-- Versions never fall along a journal.
use Rattle.std.proofs.Common.{◌≡◌, ℕ, ◌≤◌, List, [], ◌∷◌, ◌++◌, length, take, sym, ap, inl, inr, subst, arith, ⊎_elim}
use Rattle.std.specs.Prelude.{slice_get}
use Rattle.std.proofs.lemmas.Bool.{cases_eq}
use Rattle.std.proofs.lemmas.List.{length-take-le, length-append}
use Rattle.refusal_rules.proofs.RuleLemmas.{first_or_none}
use Rattle.reactor_core.specs.declared.entry.SlotEntry.{SlotEntry}
use Rattle.access_core.specs.declared.command.SlotCommand.{SlotCommand}
use Rattle.access_core.specs.Answering.{IsRefused}
use Rattle.access_core.specs.Desk.{desk_at}
use Rattle.history_events.specs.declared.event.Event.{Event}
use Rattle.history_events.specs.declared.event.Event.TheVariants.{Admin, OnSlot}
use Rattle.history_events.specs.SlotAdditions.{ChangesJournal}
use Rattle.history_events.specs.Rising.{Rises}
use Rattle.history_events.specs.Runs.{WorldState, Moment, EventStep, Comes, journal_in, journal_at, last_version}
use Rattle.history_events.specs.Runs.{newest_known, desk_of, version_rules, Judged}
use Rattle.history_events.proofs.Following.{reached}
use Rattle.history_events.proofs.Placing.{opening_journal, slots_stay, entries_stay, desk_moves}

further : (from last more : ℕ) (journal : List SlotEntry) → last ≤ more → Rises from last journal
    → Rises from more journal
further from last more [] low h = omega (arith, low, h)
further from last more (e ∷ later) low h = (h.0, further e.stamp.version last more later low h.1)

rises_push : (from last : ℕ) (journal : List SlotEntry) (e : SlotEntry) → Rises from last journal
    → last_version from journal ≤ e.stamp.version → e.stamp.version ≤ last
    → Rises from last (journal ++ e ∷ [])
rises_push from last [] e h low within = (low, within)
rises_push from last (x ∷ later) e h low within = (h.0, rises_push x.stamp.version last later e h.1 low within)

-- in each slot the versions rise up to the length of the policy list
abbrev pub EachRises : List Moment → WorldState → Type 0
EachRises past world = (slot : ℕ) → Rises 0 (length world.entries) (journal_at world slot)

module _ (m : Moment) (were : EachRises [] m.before) where
  here : (version slot session : ℕ) (command : SlotCommand)
      → ChangesJournal (take version m.before.entries) session command (journal_at m.before slot) m.reply
      (journal_at m.after slot)
      → version ≤ length m.before.entries → last_version 0 (journal_at m.before slot) ≤ version
      → length (take version m.before.entries) ≡ version
      → Rises 0 (length m.before.entries) (journal_at m.after slot)
  here version slot session command (inl a) known bears long =
      subst (Rises 0 (length m.before.entries)) (sym a.added)
      (rises_push 0 (length m.before.entries) (journal_at m.before slot) _ (were slot) (omega (arith, bears, long))
      (omega (arith, known, long)))
  here version slot session command (inr n) known bears long =
      subst (Rises 0 (length m.before.entries)) (sym n.stays) (were slot)

  judged : (seat version slot session : ℕ) (command : SlotCommand) → newest_known m.before seat slot ≤ version
      → version ≤ length m.before.entries
      → Judged seat version slot session command m.before m.reply m.after → EachRises [] m.after
  judged seat version slot session command newest known h other =
      let moved = desk_moves slot session command m.reply (desk_at version (desk_of m.before))
      (desk_at version (desk_of m.after)) h.step in
      let bears : last_version 0 (journal_at m.before slot) ≤ version = omega (arith, newest) in
      let long : length (take version m.before.entries) ≡ version = length-take-le version m.before.entries known in
      subst (λ (entries : List _). Rises 0 (length entries) (journal_at m.after other)) (sym h.entries)
      (elim (cases_eq other slot) [
        | inl same ↦ subst (λ k. Rises 0 (length m.before.entries) (journal_at m.after k)) (sym same)
            (here version slot session command moved.here known bears long)
        | inr apart ↦ subst (Rises 0 (length m.before.entries)) (sym (moved.others other apart)) (were other)
      ])

  by_event : (event : Event) → EventStep event m.before m.reply m.after → EachRises [] m.after
  by_event (Admin seat session command) h = λ other.
      let slots : m.after.slots ≡ m.before.slots = slots_stay session command (desk_of m.before) m.reply
      (desk_of m.after) h.step in
      let grown = entries_stay session command (desk_of m.before) m.reply (desk_of m.after) h.step in
      let longer : length m.before.entries ≤ length m.after.entries =
      omega (arith, ap length grown.is, length-append m.before.entries grown.more) in
      subst (Rises 0 (length m.after.entries)) (sym (ap (λ slots. journal_in (slice_get slots other)) slots))
      (further 0 (length m.before.entries) (length m.after.entries) (journal_at m.before other) longer (were other))
  by_event (OnSlot seat version slot session command) h =
      ⊎_elim
      (λ first. subst (EachRises []) (sym first.2.stays) were)
      (λ passed. judged seat version slot session command passed.0.0 passed.0.1.0 passed.1)
      (first_or_none (version_rules m.before seat version slot) (λ refusal. IsRefused refusal m.before m.reply m.after)
      (Judged seat version slot session command m.before m.reply m.after) h)

-- the versions along each journal of a run never fall, and none is over the list's length
pub version_law : (past : List Moment) (m : Moment) → Comes past m → (slot : ℕ)
    → Rises 0 (length m.before.entries) (journal_at m.before slot)
version_law past m comes =
    (reached EachRises (λ past m were step. by_event m were m.event step)
    (λ slot. subst (Rises 0 4) (sym (opening_journal slot)) (omega arith)) past m comes).holds
