-- Where a look is answered.
use Rattle.std.proofs.Common.{◌≡◌, ◌↔◌, ℕ, ◌-◌, ◌<◌, true, false, List, length, take, refl, sym, ◌∙◌, ap, inl, inr}
use Rattle.std.proofs.Common.{subst, arith, ⊎_elim}
use Rattle.std.specs.Prelude.{Option, Some, None, slice_get}
use Rattle.std.proofs.lemmas.Option.{slice_get_within}
use Rattle.rbac_policy.specs.declared.commands.Entry.{Entry}
use Rattle.rbac_policy.specs.Facts.{IsLive}
use Rattle.reactor_core.specs.declared.entry.PastInstant.{PastInstant}
use Rattle.reactor_core.specs.declared.entry.SlotEntry.{SlotEntry}
use Rattle.reactor_core.specs.Answers.{IsInstant, HasNoInstant}
use Rattle.reactor_core.specs.Meaning.{is_loaded, instants_of}
use Rattle.access_core.specs.declared.command.SlotCommand.TheVariants.{Look}
use Rattle.access_core.specs.declared.refusal.Refusal.{Refusal}
use Rattle.access_core.specs.declared.reply.Reply.{Reply}
use Rattle.access_core.specs.declared.reply.Reply.TheVariants.{Refused}
use Rattle.access_core.specs.Needs.{IsAccepted}
use Rattle.access_core.specs.SlotState.{SlotState}
use Rattle.access_core.specs.SlotStep.{SlotStep}
use Rattle.access_core.proofs.Running.{instant_within}
use Rattle.history_events.specs.declared.event.Event.TheVariants.{OnSlot}
use Rattle.history_events.specs.Accepting.{MeetsNoLimit, HasInstant}
use Rattle.history_events.specs.Runs.{Moment, EventStep, Comes, journal_in, journal_at}
use Rattle.history_events.proofs.Accepting.{judged_accepted, sixteen_slots}
use Rattle.history_events.proofs.Enterings.{step_of}
use Rattle.history_events.proofs.Showing.{looked}

-- where a module runs there is a slot
loaded_below : (slots : List SlotState) (slot : ℕ) → length slots ≡ 16
    → is_loaded (journal_in (slice_get slots slot)) ≡ true → slot < 16
loaded_below slots slot sixteen loaded = by_option (slice_get slots slot) refl where
  by_option : (o : Option SlotState) → slice_get slots slot ≡ o → slot < 16
  by_option None is = let none : false ≡ true = sym (ap (λ o. is_loaded (journal_in o)) is) ∙ loaded in absurd cc
  by_option (Some s) is = omega (arith, slice_get_within slots slot s is, sixteen)

-- a look that reaches its slot is answered where the instant is there
look_accepted : (entries : List Entry) (slot session n : ℕ) (before : List SlotEntry) (reply : Reply)
    (after : List SlotEntry) → MeetsNoLimit reply
    → IsLive entries session → is_loaded before ≡ true → (HasNoInstant before n → ⊥)
    → SlotStep entries slot session (Look n) before reply after
    → IsAccepted reply
look_accepted entries slot session n before reply after limit live loaded there =
    ⊎_elim (λ r. absurd (r.given.1 live))
    (λ p. ⊎_elim (λ r. absurd (r.given.1 loaded))
    (λ p. ⊎_elim (λ r. absurd (there r.given.1))
    (λ p. ⊎_elim
    (λ r. absurd
    (subst (λ (x : Refusal). MeetsNoLimit (Refused x)) r.given (subst MeetsNoLimit r.answered.replied limit)))
    (λ p. subst IsAccepted (sym p.next.replied) tt) p.next) p.next) p.next)

pub look_law : (past : List Moment) (m : Moment) (seat version slot session n : ℕ) → Comes past m
    → m.event ≡ OnSlot seat version slot session (Look n)
    → MeetsNoLimit m.reply
    → (IsAccepted m.reply
    ↔ (IsLive (take version m.before.entries) session × (is_loaded (journal_at m.before slot) ≡ true)
    × HasInstant (journal_at m.before slot) n))
look_law past m seat version slot session n comes is limit =
    let step : EventStep (OnSlot seat version slot session (Look n)) m.before m.reply m.after =
    subst (λ e. EventStep e m.before m.reply m.after) is (step_of past m comes) in (
      λ accepted.
          let s = looked m seat version slot session n accepted step in
          (s.lives, s.holds, (s.looks.instant, s.looks.there)),
      λ all. judged_accepted m seat version slot session (Look n) limit all.0
          (loaded_below m.before.slots slot (sixteen_slots past m comes) all.1)
          (λ after h. look_accepted (take version m.before.entries) slot session n
          (journal_at m.before slot) m.reply after limit all.0 all.1
          (instant_within (journal_at m.before slot) n all.2.0 all.2.1) h)
          step,
    )
