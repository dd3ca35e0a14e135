-- The rules of refusal of each event, in their order, and the answer that names the first that refuses (this project's
-- own table).
use Rattle.std.specs.Prelude.{◌≡◌, ℕ, List, take}
use Rattle.refusal_rules.specs.Rules.{Rule, Rules, accept, ◌▸◌, ◌▸▸◌, AllPass, FirstRefuses}
use Rattle.rbac_policy.specs.declared.commands.Entry.{Entry}
use Rattle.rbac_policy.specs.declared.objects.Operation.TheVariants.{Offer as ToOffer, Step as ToStep, Load as ToLoad}
use Rattle.rbac_policy.specs.declared.objects.Operation.TheVariants.{Audit as ToAudit}
use Rattle.rbac_policy.specs.declared.objects.Object.TheVariants.{Policy, Slot, Signal}
use Rattle.rbac_admin.specs.PolicyStep.{policy_rules, entry_of}
use Rattle.reactor_core.specs.declared.entry.SlotEntry.{SlotEntry}
use Rattle.reactor_core.specs.declared.refusal.ReactorRefusal.{ReactorRefusal}
use Rattle.est_relations.specs.Offers.{offer_rules}
use Rattle.reactor_core.specs.Answers.{gives_module}
use Rattle.reactor_core.specs.Converting.{all_converted}
use Rattle.reactor_core.specs.Faults.{refusal_of_pending}
use Rattle.reactor_core.specs.Instants.{not_ready}
use Rattle.reactor_core.specs.Meaning.{Running, RunsAfter, pending_of}
use Rattle.reactor_core.specs.declared.entry.Move.TheVariants.{Load, Offer, Discard, Step, Unload}
use Rattle.access_core.specs.declared.command.SlotCommand.{SlotCommand}
use Rattle.access_core.specs.declared.command.SlotCommand.TheVariants.{Move, Look, Audit}
use Rattle.access_core.specs.declared.refusal.Refusal.{Refusal}
use Rattle.access_core.specs.declared.refusal.Refusal.TheVariants.{Policy as OfPolicy}
use Rattle.access_core.specs.declared.reply.Reply.{Reply}
use Rattle.access_core.specs.declared.reply.Reply.TheVariants.{Refused}
use Rattle.access_core.specs.Refusals.{of_reactor}
use Rattle.access_core.specs.Desk.{no_slot, list_full}
use Rattle.access_core.specs.SlotStep.{no_session, no_permission, occupied, empty, no_instant, no_reaction}
use Rattle.access_core.specs.SlotStep.{implied_refusal, journal_full}
use Rattle.history_events.specs.declared.event.Event.{Event}
use Rattle.history_events.specs.declared.event.Event.TheVariants.{Admin, OnSlot}
use Rattle.history_events.specs.Runs.{WorldState, journal_at, version_rules}

-- a rule of a crate below, with each of its refusals told as one of access_core
abbrev pub told_as : {R : Type 0} → (R → Refusal) → Rule R → Rule Refusal
told_as {R = R} tell rule = record {
  refuses = λ refusal. (given : R) × (refusal ≡ tell given) × rule.refuses given;
  passes = rule.passes;
}

-- each rule of the list, told so
abbrev pub all_told_as : {R : Type 0} → (R → Refusal) → Rules R → Rules Refusal
all_told_as tell accept = accept
all_told_as tell (rule ▸ later) = told_as tell rule ▸ all_told_as tell later

-- refuses an offer by its name and the relations: by the first rule for offers, of the module that runs, which refuses
-- it
abbrev pub bad_offer : List SlotEntry → (name : List ℕ) → Rule Refusal
bad_offer journal name = record {
  refuses = λ refusal.
      (r : Running) × RunsAfter journal r × (given : ReactorRefusal) × (refusal ≡ of_reactor given)
      × FirstRefuses (all_converted refusal_of_pending (offer_rules (pending_of r) name)) given;
  passes =
      (r : Running) × RunsAfter journal r
      × AllPass (all_converted refusal_of_pending (offer_rules (pending_of r) name));
}

-- the rules of what a command asks of its slot, for a session that lives; memory apart
abbrev pub asked_rules : List Entry → (slot session : ℕ) → SlotCommand → List SlotEntry → Rules Refusal
asked_rules entries slot session (Move (Load l)) journal =
    no_permission entries session ToLoad (Slot slot) ▸ occupied journal
    ▸ told_as of_reactor (gives_module l.main l.text)
    ▸ journal_full journal
    ▸ accept
asked_rules entries slot session (Move (Offer signal)) journal =
    no_permission entries session ToOffer (Signal slot signal) ▸ empty journal ▸ bad_offer journal signal
    ▸ journal_full journal ▸ accept
asked_rules entries slot session (Move Discard) journal =
    no_permission entries session ToStep (Slot slot) ▸ empty journal ▸ journal_full journal ▸ accept
asked_rules entries slot session (Move (Step i)) journal =
    no_permission entries session ToStep (Slot slot) ▸ empty journal ▸ not_ready implied_refusal journal
    ▸ no_reaction entries slot session journal
    ▸ journal_full journal ▸ accept
asked_rules entries slot session (Move Unload) journal =
    no_permission entries session ToLoad (Slot slot) ▸ empty journal ▸ journal_full journal ▸ accept
asked_rules entries slot session (Look n) journal = empty journal ▸ no_instant journal n ▸ accept
asked_rules entries slot session Audit journal = no_permission entries session ToAudit Policy ▸ accept

-- the rules of a command on a slot, at a version that is not too old; want of memory aside
abbrev pub command_rules : List Entry → (slot session : ℕ) → SlotCommand → List SlotEntry → Rules Refusal
command_rules entries slot session command journal =
    no_session entries session ▸ no_slot slot ▸ asked_rules entries slot session command journal

-- the rules of an event, in their order; memory apart
abbrev pub rules_of : Event → WorldState → Rules Refusal
rules_of (Admin seat session command) world =
    all_told_as OfPolicy (policy_rules world.entries session command) ▸▸ list_full world.entries
    (entry_of session command) ▸ accept
rules_of (OnSlot seat version slot session command) world =
    version_rules world seat version slot ▸▸ command_rules (take version world.entries) slot session command
    (journal_at world slot)

-- a refusal is that of the first rule that refuses; where the reply is none, each rule lets pass
abbrev pub AnswersBy : Rules Refusal → Reply → Type 0
AnswersBy rules (Refused refusal) = FirstRefuses rules refusal
AnswersBy rules _ = AllPass rules
