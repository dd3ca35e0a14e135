-- Where an offer or a step is accepted.
use Rattle.std.proofs.Common.{◌≡◌, ◌↔◌, ℕ, ◌<◌, false, List, length, take, refl, sym, ◌∙◌, ap}
use Rattle.std.proofs.Common.{inl, inr, subst, arith, ⊎_elim}
use Rattle.std.specs.Prelude.{Option, Some, None, Result, Ok, Err, MatchResult, slice_get}
use Rattle.std.proofs.Math.ListN.{length-set}
use Rattle.std.proofs.lemmas.Bool.{true≢false}
use Rattle.std.proofs.lemmas.Option.{slice_get_within, same_Some}
use Rattle.refusal_rules.specs.Rules.{accept, ◌▸◌}
use Rattle.est_kernel.specs.Interfaces.{offerable}
use Rattle.rbac_policy.specs.declared.commands.Entry.{Entry}
use Rattle.rbac_policy.specs.declared.objects.Operation.TheVariants.{Offer as ToOffer, Step as ToStep}
use Rattle.rbac_policy.specs.declared.objects.Object.TheVariants.{Slot, Signal}
use Rattle.rbac_policy.specs.Facts.{IsLive, May}
use Rattle.reactor_core.specs.declared.entry.SlotEntry.{SlotEntry}
use Rattle.reactor_core.specs.declared.entry.SlotWord.TheVariants as word
use Rattle.reactor_core.specs.declared.refusal.ReactorRefusal.{ReactorRefusal}
use Rattle.reactor_core.specs.Meaning.{last_load, Running, RunsAfter}
use Rattle.reactor_core.specs.Answers.{ReactorOfferAnswer}
use Rattle.reactor_core.specs.Instants.{KeepsRelations}
use Rattle.reactor_core.proofs.OneMeaning.{OneModule, same_running, is_loaded_where, not_both, ready_or_lacking}
use Rattle.access_core.specs.declared.command.SlotCommand.{SlotCommand}
use Rattle.reactor_core.specs.declared.entry.Move.TheVariants.{Offer, Step}
use Rattle.access_core.specs.declared.command.SlotCommand.TheVariants.{Move}
use Rattle.access_core.specs.declared.refusal.Refusal.{Refusal}
use Rattle.access_core.specs.declared.reply.Reply.{Reply}
use Rattle.access_core.specs.declared.reply.Reply.TheVariants.{Refused}
use Rattle.access_core.specs.Answering.{IsRefused, ByRules}
use Rattle.access_core.specs.Refusals.{of_reactor}
use Rattle.access_core.specs.Desk.{desk_at, no_slot, InSlot}
use Rattle.access_core.specs.Needs.{IsAccepted}
use Rattle.access_core.specs.SlotState.{SlotState}
use Rattle.access_core.specs.SlotStep.{SlotStep, no_session, stamp_of, tells_added, Offers}
use Rattle.history_events.specs.declared.event.Event.{Event}
use Rattle.history_events.specs.declared.event.Event.TheVariants.{Admin, OnSlot}
use Rattle.history_events.specs.Accepting.{MeetsNoLimit, IsInputName, IsExcluded, CanOffer, HasReaction}
use Rattle.history_events.specs.EventChanges.{Changes, AddsSlotEntry}
use Rattle.history_events.specs.Entering.{WasOffered, StandsIn}
use Rattle.history_events.specs.Runs.{WorldState, Moment, EventStep, Comes, journal_in, journal_at, desk_of}
use Rattle.history_events.specs.Runs.{version_rules, Judged}
use Rattle.history_events.proofs.Changes.{by_event}
use Rattle.history_events.proofs.Enterings.{step_of}
use Rattle.history_events.proofs.Following.{reached}
use Rattle.history_events.proofs.Pendings.{offer_adds, step_adds, pending_as_offered}
use Rattle.history_events.proofs.Slotwise.{Adds}

same_err : (x y : ReactorRefusal) → (let r : Result (Unit {0}) ReactorRefusal = Err x in r) ≡ Err y → x ≡ y
same_err x y e = cc

no_ok : (x : ReactorRefusal) → (let r : Result (Unit {0}) ReactorRefusal = Err x in r) ≡ Ok (record {}) → ⊥
no_ok x e = absurd cc

-- a run keeps sixteen slots
abbrev HasSixteen : List Moment → WorldState → Type 0
HasSixteen past world = length world.slots ≡ 16

sixteen_after : (event : Event) (m : Moment) → length m.before.slots ≡ 16 → Changes event m → length m.after.slots ≡ 16
sixteen_after (Admin seat session command) m was (inl a) = ap length a.1.slots ∙ was
sixteen_after (Admin seat session command) m was (inr n) = ap length n.1.slots ∙ was
sixteen_after (OnSlot seat version slot session command) m was (inl a) =
    ap length a.1.added ∙ length-set m.before.slots slot _ ∙ was
sixteen_after (OnSlot seat version slot session command) m was (inr n) = ap length n.1.slots ∙ was

pub sixteen_slots : (past : List Moment) (m : Moment) → Comes past m → length m.before.slots ≡ 16
sixteen_slots past m comes =
    (reached HasSixteen (λ past m was step. sixteen_after m.event m was (by_event m m.event step)) refl past m
    comes).holds

-- where a module runs there is a slot
slot_below : (slots : List SlotState) (slot : ℕ) (running : Running) → length slots ≡ 16
    → RunsAfter (journal_in (slice_get slots slot)) running → slot < 16
slot_below slots slot running sixteen runs = by_option (slice_get slots slot) refl where
  by_option : (o : Option SlotState) → slice_get slots slot ≡ o → slot < 16
  by_option None is = let none : None ≡ Some runs.load = sym (ap (λ o. last_load (journal_in o)) is) ∙ runs.last in
      absurd cc
  by_option (Some s) is = omega (arith, slice_get_within slots slot s is, sixteen)

module _ (modules : OneModule) (entries : List Entry) (slot session : ℕ) (before : List SlotEntry) (reply : Reply)
    (after : List SlotEntry)
    (limit : MeetsNoLimit reply) (running : Running) (runs : RunsAfter before running) where
  -- a refusal that tells of a limit
  at_limit : (refusal : Refusal) → (MeetsNoLimit (Refused refusal) → ⊥) → reply ≡ Refused refusal → IsAccepted reply
  at_limit refusal tells replied = absurd (tells (subst MeetsNoLimit replied limit))

  -- an offer that reaches the reactor
  offer_taken : (name : List ℕ) → CanOffer running name → Offers (stamp_of entries session) name before reply after
      → IsAccepted reply
  offer_taken name can h = by_answer h.answer h.given h.replied where
    by_answer : (answer : Result (Unit {0}) ReactorRefusal)
        → ReactorOfferAnswer before (stamp_of entries session) name answer after
        → MatchResult answer (λ _. reply ≡ tells_added word.Offer (length entries) after)
        (λ refusal. IsRefused (of_reactor refusal) before reply after)
        → IsAccepted reply
    by_answer (Ok done) given replied = subst IsAccepted (sym replied) tt
    by_answer (Err refusal) given replied =
        let same : given.running ≡ running = same_running modules before given.running running given.runs runs in
        let may : CanOffer given.running name = subst (λ (r : Running). CanOffer r name) (sym same) can in
        let limited : (wanted : ReactorRefusal) → (MeetsNoLimit (Refused (of_reactor wanted)) → ⊥) → refusal ≡ wanted
        → IsAccepted reply =
        λ wanted tells is. at_limit (of_reactor wanted) tells (replied.replied ∙ ap (λ r. Refused (of_reactor r)) is) in
        ⊎_elim (λ r. absurd (r.given.2.1 may.signal))
        (λ p. ⊎_elim (λ r. absurd (may.input r.given.2.1))
        (λ p. ⊎_elim (λ r. absurd (may.new r.given.2.1))
        (λ p. ⊎_elim (λ r. absurd (may.kept (r.given.2.0.0, r.given.2.0.1, r.given.2.2)))
        (λ p. ⊎_elim
        (λ r. limited r.refusal
        (λ no. subst (λ (x : ReactorRefusal). MeetsNoLimit (Refused (of_reactor x))) r.given.0 no)
        (same_err refusal r.refusal r.answered.0))
        (λ p. ⊎_elim
        (λ r. limited r.refusal
        (λ no. subst (λ (x : ReactorRefusal). MeetsNoLimit (Refused (of_reactor x))) r.given no)
        (same_err refusal r.refusal r.answered.0))
        (λ p. absurd (no_ok refusal p.next.0)) p.next) p.next) p.next) p.next) p.next) given.given

  pub offer_accepted : (name : List ℕ) → CanOffer running name → May entries session ToOffer (Signal slot name)
      → SlotStep entries slot session (Move (Offer name)) before reply after → IsAccepted reply
  offer_accepted name can may =
      ⊎_elim (λ r. absurd (r.given.1 (may.user, may.lives)))
      (λ p. ⊎_elim (λ r. absurd (r.given.1 may))
      (λ p. ⊎_elim (λ r. absurd (r.given.1 (is_loaded_where before running runs)))
      (λ p. offer_taken name can p.next) p.next) p.next)

  pub step_accepted : May entries session ToStep (Slot slot) → KeepsRelations before → HasReaction before
      → SlotStep entries slot session (Move (Step (record {}))) before reply after → IsAccepted reply
  step_accepted may keeps has =
      ⊎_elim (λ r. absurd (r.given.1 (may.user, may.lives)))
      (λ p. ⊎_elim (λ r. absurd (r.given.1 may))
      (λ p. ⊎_elim (λ r. absurd (r.given.1 (is_loaded_where before running runs)))
      (λ p. ⊎_elim (λ r. absurd (ready_or_lacking modules before r.given.0 r.given.1 r.given.3 keeps))
      (λ p. ⊎_elim
      (λ r. at_limit r.refusal (λ no. subst (λ (x : Refusal). MeetsNoLimit (Refused x)) r.given no)
      r.answered.replied)
      (λ p. ⊎_elim (λ r. absurd (not_both modules before has.0 has.1 r.given.undecided has.2 r.given.none))
      (λ p. ⊎_elim
      (λ r. at_limit r.refusal (λ no. subst (λ (x : Refusal). MeetsNoLimit (Refused x)) r.given.0 no)
      r.answered.replied)
      (λ p. subst IsAccepted (sym p.next.replied) tt) p.next) p.next) p.next) p.next) p.next) p.next)

module _ (m : Moment) (seat version slot session : ℕ) (command : SlotCommand) (limit : MeetsNoLimit m.reply) where
  -- a command is accepted where the slot step accepts it, in a slot that is there, by a session that lives
  pub judged_accepted : IsLive (take version m.before.entries) session → slot < 16
      → ((after : List SlotEntry) → SlotStep (take version m.before.entries) slot session command
      (journal_at m.before slot) m.reply after → IsAccepted m.reply)
      → ByRules (version_rules m.before seat version slot)
      (Judged seat version slot session command) m.before m.reply m.after → IsAccepted m.reply
  judged_accepted lives below accepts =
      ⊎_elim (λ r. absurd
      (subst (λ (x : Refusal). MeetsNoLimit (Refused x)) r.given.0 (subst MeetsNoLimit r.answered.replied limit)))
      (λ p. ⊎_elim
      (λ r. absurd
      (subst (λ (x : Refusal). MeetsNoLimit (Refused x)) r.given.0 (subst MeetsNoLimit r.answered.replied limit)))
      (λ p. judged p.next.step) p.next) where
        judged : ByRules (no_session (take version m.before.entries) session ▸ no_slot slot ▸ accept)
            (InSlot slot session command) (desk_at version (desk_of m.before)) m.reply
            (desk_at version (desk_of m.after)) → IsAccepted m.reply
        judged =
            ⊎_elim (λ r. absurd (r.given.1 lives))
            (λ p. ⊎_elim (λ r. absurd (r.given.1 below))
            (λ p. accepts p.next.journal
            (subst (λ j. SlotStep (take version m.before.entries) slot session command j m.reply p.next.journal)
            (sym (ap journal_in p.next.there)) p.next.step)) p.next)

-- an accepted command that doesn't only ask adds an entry
adds_entry : (m : Moment) (seat version slot session : ℕ) (command : SlotCommand) → Adds command → IsAccepted m.reply
    → Changes (OnSlot seat version slot session command) m → AddsSlotEntry version slot session command m
adds_entry m seat version slot session command adds accepted (inl a) = a.1
adds_entry m seat version slot session command adds accepted (inr n) = absurd (adds (n.0 accepted))

-- an input that was not offered, and excludes nothing, can be offered
can_offer : (running : Running) (name : List ℕ) → IsInputName running.interface name
    → (StandsIn running.interface running.pending name → ⊥) → ¬ (IsExcluded running name) → CanOffer running name
can_offer running name input new kept = record {
  signal = record { place = input.place; there = input.there };
  input = λ output.
      let same : output.place ≡ input.place = same_Some output.place input.place (sym output.there ∙ input.there) in
      true≢false (sym input.input ∙ subst (λ p. offerable running.interface p ≡ false) same output.output);
  new = λ pending. new (record { place = pending.place; there = pending.there; set = pending.pending });
  kept = kept;
}

pub offer_law : OneModule → (past : List Moment) (m : Moment) (seat version slot session : ℕ) (name : List ℕ)
    (running : Running) → Comes past m
    → m.event ≡ OnSlot seat version slot session (Move (Offer name)) → MeetsNoLimit m.reply
    → RunsAfter (journal_at m.before slot) running → IsInputName running.interface name → ¬ (WasOffered past slot name)
    → (IsAccepted m.reply
    ↔ (May (take version m.before.entries) session ToOffer (Signal slot name) × ¬ (IsExcluded running name)))
offer_law modules past m seat version slot session name running comes is limit runs input new =
    let step : EventStep (OnSlot seat version slot session (Move (Offer name))) m.before m.reply m.after =
    subst (λ e. EventStep e m.before m.reply m.after) is (step_of past m comes) in
    let no_stand : StandsIn running.interface running.pending name → ⊥ =
    λ s. new ((pending_as_offered modules past m comes slot running runs name).0 s) in (
      λ accepted.
          let added = adds_entry m seat version slot session (Move (Offer name))
          (offer_adds name (Move (Offer name)) refl) accepted
          (by_event m (OnSlot seat version slot session (Move (Offer name))) step) in
          let here : RunsAfter (journal_at m.before slot) added.is.running =
          subst (λ j. RunsAfter j added.is.running) (sym (ap journal_in added.there)) added.is.runs in
          let same : added.is.running ≡ running = same_running modules
          (journal_at m.before slot) added.is.running running here runs in
          (added.allowed, (subst (λ (r : Running). CanOffer r name) same added.is.can).kept),
      λ both. judged_accepted m seat version slot session (Move (Offer name)) limit (both.0.user, both.0.lives)
          (slot_below m.before.slots slot running (sixteen_slots past m comes) runs)
          (λ after h. offer_accepted modules (take version m.before.entries) slot session
          (journal_at m.before slot) m.reply after limit running runs
          name (can_offer running name input no_stand both.1) both.0 h)
          step,
    )

pub step_law : OneModule → (past : List Moment) (m : Moment) (seat version slot session : ℕ) (running : Running)
    → Comes past m
    → m.event ≡ OnSlot seat version slot session (Move (Step (record {}))) → MeetsNoLimit m.reply
    → RunsAfter (journal_at m.before slot) running
    → (IsAccepted m.reply
    ↔ (May (take version m.before.entries) session ToStep (Slot slot) × KeepsRelations (journal_at m.before slot)
    × HasReaction (journal_at m.before slot)))
step_law modules past m seat version slot session running comes is limit runs =
    let step : EventStep (OnSlot seat version slot session (Move (Step (record {})))) m.before m.reply m.after =
    subst (λ e. EventStep e m.before m.reply m.after) is (step_of past m comes) in (
      λ accepted.
          let added = adds_entry m seat version slot session (Move (Step (record {})))
          (step_adds (Move (Step (record {}))) refl) accepted
          (by_event m (OnSlot seat version slot session (Move (Step (record {})))) step) in
          let here = sym (ap journal_in added.there) in (
            added.allowed,
            subst KeepsRelations here added.is.lawful,
            subst HasReaction here (added.is.outputs, added.is.next, added.is.outcome),
          ),
      λ all. judged_accepted m seat version slot session (Move (Step (record {}))) limit (all.0.user, all.0.lives)
          (slot_below m.before.slots slot running (sixteen_slots past m comes) runs)
          (λ after h. step_accepted modules (take version m.before.entries) slot session
          (journal_at m.before slot) m.reply after limit running runs
          all.0 all.1 all.2 h)
          step,
    )
