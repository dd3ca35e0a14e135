-- What a command on a slot does to its journal.
use Rattle.std.proofs.Common.{◌≡◌, ℕ, true, List, length, refl, sym, ◌∙◌, inl, inr, subst, ⊎_elim}
use Rattle.std.specs.Prelude.{Result, Ok, Err, MatchResult}
use Rattle.refusal_rules.specs.Rules.{AllPass}
use Rattle.refusal_rules.proofs.RuleLemmas.{all_passed, first_or_none}
use Rattle.rbac_policy.specs.declared.commands.Entry.{Entry}
use Rattle.reactor_core.specs.declared.entry.Move.TheVariants.{Load, Offer, Discard, Step, Unload}
use Rattle.reactor_core.specs.declared.entry.SlotEntry.{SlotEntry}
use Rattle.reactor_core.specs.declared.entry.SlotWord.TheVariants as word
use Rattle.reactor_core.specs.declared.refusal.ReactorRefusal.{ReactorRefusal}
use Rattle.reactor_core.specs.Meaning.{instant, is_loaded}
use Rattle.reactor_core.specs.Answers.{
  HasRoom,
  LoadAnswer,
  ReactorOfferAnswer,
  AddsLoad,
  load_of,
  load_rules,
  reactor_offer_rules,
}
use Rattle.reactor_core.specs.Instants.{KeepsRelations}
use Rattle.access_core.specs.declared.command.SlotCommand.{SlotCommand}
use Rattle.access_core.specs.declared.command.SlotCommand.TheVariants.{Move, Look, Audit}
use Rattle.access_core.specs.declared.refusal.Refusal.{Refusal}
use Rattle.access_core.specs.declared.reply.Reply.{Reply}
use Rattle.access_core.specs.declared.reply.Reply.TheVariants.{Refused}
use Rattle.access_core.specs.Answering.{IsRefused}
use Rattle.access_core.specs.Refusals.{of_reactor}
use Rattle.access_core.specs.Needs.{IsAccepted}
use Rattle.access_core.specs.SlotStep.{SlotStep, slot_rules, Does, Loads, Offers, Steps, stamp_of, tells_added}
use Rattle.history_events.specs.SlotAdditions.{ChangesJournal}

-- a refusal accepts nothing
pub not_accepted : {A : Type 0} (reply : Reply) (refusal : Refusal) → reply ≡ Refused refusal → IsAccepted reply → A
not_accepted reply refusal is accepted = absurd (subst IsAccepted is accepted)

module _ (entries : List Entry) (slot session : ℕ) (before : List SlotEntry) (reply : Reply)
    (after : List SlotEntry) where
  refused : (command : SlotCommand) (refusal : Refusal) → IsRefused refusal before reply after
      → ChangesJournal entries session command before reply after
  refused command refusal h = inr (record { no_more = not_accepted reply refusal h.replied; stays = h.stays })

  loads : (main text : List ℕ) → (is_loaded before ≡ true → ⊥)
      → Loads (stamp_of entries session) main text before reply after
      → ChangesJournal entries session (Move (Load (load_of main text))) before reply after
  loads main text none h = by_answer h.answer h.given h.replied where
    by_answer : (answer : Result (List SlotEntry) (ReactorRefusal × List SlotEntry))
        → LoadAnswer before (stamp_of entries session) main text answer
        → MatchResult answer
        (λ journal. (after ≡ journal) × (reply ≡ tells_added word.Load (length entries) after))
        (λ refused. IsRefused (of_reactor refused.0) before reply after)
        → ChangesJournal entries session (Move (Load (load_of main text))) before reply after
    by_answer (Ok journal) given replied =
        let passed = all_passed (load_rules before main text) (λ refusal. Ok journal ≡ Err (refusal, before))
        ((longer : List SlotEntry) × (Ok journal ≡ Ok longer)
        × AddsLoad before (stamp_of entries session) main text longer) (λ refusal e. cc) given in
        let longer = passed.1.0 in
        let adds = passed.1.2 in
        let e = passed.1.1 in
        let same : journal ≡ longer = cc in
        inl (record {
          accepted = subst IsAccepted (sym replied.1) tt;
          does = Load (load_of main text);
          is = record { empty = none; given = adds.given; gives = adds.gives; is = refl };
          room = passed.0.1.0;
          added = replied.0 ∙ same ∙ adds.added;
          told = replied.1;
        })
    by_answer (Err refusal) given replied = refused (Move (Load (load_of main text))) _ replied

  offers : (signal : List ℕ) → Offers (stamp_of entries session) signal before reply after
      → ChangesJournal entries session (Move (Offer signal)) before reply after
  offers signal h = by_answer h.answer h.given h.replied where
    by_answer : (answer : Result (Unit {0}) ReactorRefusal)
        → ReactorOfferAnswer before (stamp_of entries session) signal answer after
        → MatchResult answer
        (λ _. reply ≡ tells_added word.Offer (length entries) after)
        (λ refusal. IsRefused (of_reactor refusal) before reply after)
        → ChangesJournal entries session (Move (Offer signal)) before reply after
    by_answer (Ok done) given replied =
        let passed = all_passed (reactor_offer_rules before given.running signal) _ _
        (λ refusal e. let no = e.0 in cc) given.given in
        inl (record {
          accepted = subst IsAccepted (sym replied) tt;
          does = Offer signal;
          is = record {
            running = given.running;
            runs = given.runs;
            can = record {
              signal = passed.0.0;
              input = passed.0.1.0;
              new = passed.0.1.1.0;
              kept = λ e. passed.0.1.1.1.0 (e.0, e.1) e.2;
            };
            is = refl;
          };
          room = passed.0.1.1.1.1.0;
          added = passed.1.1;
          told = replied;
        })
    by_answer (Err refusal) given replied = refused (Move (Offer signal)) _ replied

  steps : KeepsRelations before → HasRoom before → Steps (stamp_of entries session) before reply after
      → ChangesJournal entries session (Move (Step (record {}))) before reply after
  steps lawful room h = inl (record {
    accepted = subst IsAccepted (sym h.replied) tt;
    does = Step (instant h.adds.outcome.running.pending h.outputs);
    is = record { lawful = lawful; outputs = h.outputs; next = h.next; outcome = h.adds.outcome; is = refl };
    room = room;
    added = h.adds.appended;
    told = h.replied;
  })

  -- a command that each rule lets pass does this
  does : (command : SlotCommand) → AllPass (slot_rules entries slot session command before)
      → Does entries slot session command before reply after
      → ChangesJournal entries session command before reply after
  does (Move (Load l)) all h = loads l.main l.text all.1.1.0 h
  does (Move (Offer signal)) all h = offers signal h
  does (Move Discard) all h = inl (record {
    accepted = subst IsAccepted (sym h.replied) tt;
    does = Discard;
    is = record { loaded = all.1.1.0; is = refl };
    room = all.1.1.1.0;
    added = h.added;
    told = h.replied;
  })
  does (Move (Step i)) all h = steps all.1.1.1.0 all.1.1.1.1.1.1.0 h
  does (Move Unload) all h = inl (record {
    accepted = subst IsAccepted (sym h.replied) tt;
    does = Unload;
    is = record { loaded = all.1.1.0; is = refl };
    room = all.1.1.1.0;
    added = h.added;
    told = h.replied;
  })
  does (Look n) all h = inr (record { no_more = λ _. inl (n, refl); stays = h.stays })
  does Audit all h = inr (record { no_more = λ _. inr refl; stays = h.stays })

  -- the slot step adds what the command asks for, or nothing
  pub moves : (command : SlotCommand) → SlotStep entries slot session command before reply after
      → ChangesJournal entries session command before reply after
  moves command h =
      ⊎_elim
      (λ first. refused command first.0 first.2)
      (λ passed. does command passed.0 passed.1)
      (first_or_none (slot_rules entries slot session command before) (λ refusal. IsRefused refusal before reply after)
      (Does entries slot session command before reply after) h)
