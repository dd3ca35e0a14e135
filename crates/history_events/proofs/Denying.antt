-- The reply to an event is the first refusal of its rules.
use Rattle.std.proofs.Common.{◌≡◌, ◌⊎◌, ◌∙◌, ℕ, List, length, take, refl, sym, ap, inl, inr, subst, ⊎_elim}
use Rattle.std.specs.Prelude.{Option, Result, Ok, Err, MatchResult}
use Rattle.refusal_rules.specs.Rules.{Rule, Rules, accept, ◌▸◌, ◌▸▸◌, Answers, AllPass, Refuses, Passes}
use Rattle.refusal_rules.proofs.RuleLemmas.{refuse, pass, append, split, all_passed, first_or_none}
use Rattle.rbac_policy.specs.declared.commands.AdminCommand.{AdminCommand}
use Rattle.rbac_policy.specs.declared.commands.Entry.{Entry}
use Rattle.rbac_policy.specs.Facts.{IsLive}
use Rattle.rbac_admin.specs.declared.refusal.PolicyRefusal.{PolicyRefusal}
use Rattle.rbac_admin.specs.PolicyStep.{PolicyStep, policy_rules, entry_of}
use Rattle.reactor_core.specs.Meaning.{PastMove}
use Rattle.reactor_core.specs.declared.entry.SlotEntry.{SlotEntry}
use Rattle.reactor_core.specs.declared.entry.SlotWord.TheVariants as word
use Rattle.reactor_core.specs.declared.refusal.ReactorRefusal.{ReactorRefusal}
use Rattle.reactor_core.specs.Answers.{
  LoadAnswer,
  ReactorOfferAnswer,
  AddsLoad,
  load_rules,
  entry_rules,
  gives_module,
}
use Rattle.est_relations.specs.Offers.{offer_rules}
use Rattle.reactor_core.specs.Converting.{all_converted}
use Rattle.reactor_core.specs.Faults.{refusal_of_pending}
use Rattle.reactor_core.specs.Meaning.{Running, pending_of}
use Rattle.reactor_core.specs.declared.entry.Move.TheVariants.{Load, Offer, Discard, Step, Unload}
use Rattle.access_core.specs.declared.command.SlotCommand.{SlotCommand}
use Rattle.access_core.specs.declared.command.SlotCommand.TheVariants.{Move, Look, Audit}
use Rattle.access_core.specs.declared.refusal.Refusal.{Refusal}
use Rattle.access_core.specs.declared.refusal.Refusal.TheVariants.{Policy, JournalFull, Memory}
use Rattle.access_core.specs.declared.reply.Reply.{Reply}
use Rattle.access_core.specs.declared.reply.Reply.TheVariants.{Refused}
use Rattle.access_core.specs.Answering.{IsRefused, ByRules, no_memory}
use Rattle.access_core.specs.Refusals.{of_reactor}
use Rattle.access_core.specs.Desk.{desk_at, AdminStep, DeskStep, InSlot, Appends, list_full, change_of}
use Rattle.access_core.specs.Needs.{IsAccepted}
use Rattle.access_core.specs.SlotStep.{SlotStep, Loads, Offers, AddsEntry, Audits, stamp_of, journal_full, tells_added}
use Rattle.access_core.specs.SlotStep.{slot_entry_rules}
use Rattle.access_core.proofs.OneSlotStep.{mapped, same_err, no_ok, no_err}
use Rattle.history_events.specs.declared.event.Event.{Event}
use Rattle.history_events.specs.declared.event.Event.TheVariants.{Admin, OnSlot}
use Rattle.history_events.specs.Denying.{told_as, all_told_as, bad_offer, asked_rules, command_rules, rules_of}
use Rattle.history_events.specs.Denying.{AnswersBy}
use Rattle.history_events.specs.Runs.{Moment, EventStep, Comes, journal_in, journal_at, desk_of, Judged}
use Rattle.history_events.proofs.Changes.{accepted_change}
use Rattle.history_events.proofs.Enterings.{step_of}

-- the rules give this reply: the refusal of the first that refuses, or one that is none, where each lets pass
abbrev Named : Rules Refusal → Reply → Type 0
Named rules reply = Answers rules (λ refusal. reply ≡ Refused refusal) (IsAccepted reply)

answers_by : (rules : Rules Refusal) (reply : Reply) → IsAccepted reply → AllPass rules → AnswersBy rules reply
answers_by rules (Refused refusal) is all = absurd is
answers_by rules reply is all = all

named : (rules : Rules Refusal) (reply : Reply) → Named rules reply → AnswersBy rules reply
named rules reply h =
    ⊎_elim
    (λ first. subst (AnswersBy rules) (sym first.2) first.1)
    (λ none. answers_by rules reply none.1 none.0)
    (first_or_none rules (λ refusal. reply ≡ Refused refusal) (IsAccepted reply) h)

-- rules of a crate below, told as those of a request
told : {R : Type 0} (tell : R → Refusal) (rules : Rules R) (Before : R → Type 0) (After : Refusal → Type 0)
    (Next Then : Type 0)
    → ((refusal : R) → Before refusal → After (tell refusal)) → (Next → Then) → Answers rules Before Next
    → Answers (all_told_as tell rules) After Then
told tell accept Before After Next Then refuses goes_on h = goes_on h
told tell (rule ▸ later) Before After Next Then refuses goes_on (inl r) =
    inl (record {
      refusal = tell r.refusal;
      given = (r.refusal, refl, r.given);
      answered = refuses r.refusal r.answered;
    })
told tell (rule ▸ later) Before After Next Then refuses goes_on (inr p) =
    inr (record { passed = p.passed; next = told tell later Before After Next Then refuses goes_on p.next })

-- a rule whose refusal is told, and what follows it
on : {S : Type 0} {rule : Rule Refusal} {before after : S} {reply : Reply} {Next Then : Type 0}
    → (rule.passes → Next → Then)
    → Refuses rule (λ refusal. IsRefused refusal before reply after) ⊎ Passes rule Next
    → Refuses rule (λ refusal. reply ≡ Refused refusal) ⊎ Passes rule Then
on goes_on (inl r) = inl (record { refusal = r.refusal; given = r.given; answered = r.answered.replied })
on goes_on (inr p) = inr (record { passed = p.passed; next = goes_on p.passed p.next })

-- the rules for an offer of this name to what runs
abbrev asked_of : Running → (name : List ℕ) → Rules ReactorRefusal
asked_of running name = all_converted refusal_of_pending (offer_rules (pending_of running) name)

same_ok : {A B : Type 0} (x y : A) → (let r : Result A B = Ok x in r) ≡ Ok y → x ≡ y
same_ok x y e = cc

module _ (entries : List Entry) (slot session : ℕ) (before : List SlotEntry) (reply : Reply) (after : List SlotEntry)
    (ample : ¬ (reply ≡ Refused Memory)) where
  -- the rule that memory may be refused refuses nothing here
  unmoved : {Next : Type 0} → Refuses no_memory (λ refusal. IsRefused refusal before reply after)
      ⊎ Passes no_memory Next → Next
  unmoved (inl r) = absurd (ample (r.answered.replied ∙ ap Refused r.given))
  unmoved (inr p) = p.next

  -- the rules for an entry, where no memory is refused
  has_room : (refusal : ReactorRefusal) → reply ≡ Refused (of_reactor refusal)
      → Answers (entry_rules before) (λ given. refusal ≡ given) (⊥)
      → Named (journal_full before ▸ accept) reply
  has_room refusal replied =
      ⊎_elim
      (λ r. refuse JournalFull (refl, r.given.1) (replied ∙ ap (λ x. Refused (of_reactor x)) (r.answered ∙ r.given.0)))
      (λ p. ⊎_elim
      (λ r. absurd (ample (replied ∙ ap (λ x. Refused (of_reactor x)) (r.answered ∙ r.given))))
      (λ q. absurd q.next) p.next)

  loads : (main text : List ℕ) → Loads (stamp_of entries session) main text before reply after
      → Named (told_as of_reactor (gives_module main text) ▸ journal_full before ▸ accept) reply
  loads main text h = by_answer h.answer h.given h.replied where
    by_answer : (answer : Result (List SlotEntry) (ReactorRefusal × List SlotEntry))
        → LoadAnswer before (stamp_of entries session) main text answer
        → MatchResult answer
        (λ journal. (after ≡ journal) × (reply ≡ tells_added word.Load (length entries) after))
        (λ refused. IsRefused (of_reactor refused.0) before reply after)
        → Named (told_as of_reactor (gives_module main text) ▸ journal_full before ▸ accept) reply
    by_answer (Ok journal) given replied =
        let passed = all_passed (load_rules before main text) (λ refusal. Ok journal ≡ Err (refusal, before))
        ((longer : List SlotEntry) × (Ok journal ≡ Ok longer)
        × AddsLoad before (stamp_of entries session) main text longer)
        (λ refusal e. no_err journal (refusal, before) e) given in
        pass passed.0.0 (pass passed.0.1.0 (subst IsAccepted (sym replied.1) tt))
    by_answer (Err refusal) given replied =
        ⊎_elim
        (λ r. refuse (of_reactor r.refusal) (r.refusal, refl, r.given)
        (replied.replied ∙ ap (λ x. Refused (of_reactor x)) (first refusal (r.refusal, before) r.answered)))
        (λ p. pass p.passed (has_room refusal.0 replied.replied
        (mapped (entry_rules before) _ (λ given. refusal.0 ≡ given) _ ⊥ (λ x e. first refusal (x, before) e)
        (λ e. no_ok refusal e.0 e.1) p.next)))
        given where
          first : (x y : ReactorRefusal × List SlotEntry)
              → (let r : Result (List SlotEntry) (ReactorRefusal × List SlotEntry) = Err x in r) ≡ Err y → x.0 ≡ y.0
          first x y e = ap (λ (p : ReactorRefusal × List SlotEntry). p.0) (same_err x y e)

  offers : (signal : List ℕ) → Offers (stamp_of entries session) signal before reply after
      → Named (bad_offer before signal ▸ journal_full before ▸ accept) reply
  offers signal h = by_answer h.answer h.given h.replied where
    by_answer : (answer : Result (Unit {0}) ReactorRefusal)
        → ReactorOfferAnswer before (stamp_of entries session) signal answer after
        → MatchResult answer (λ _. reply ≡ tells_added word.Offer (length entries) after)
        (λ refusal. IsRefused (of_reactor refusal) before reply after)
        → Named (bad_offer before signal ▸ journal_full before ▸ accept) reply
    by_answer (Ok done) given replied =
        let names = split (asked_of given.running signal) (entry_rules before) _ _ given.given in
        let passed = all_passed (asked_of given.running signal) _ _ (λ refusal e. no_err done refusal e.0) names in
        let room = all_passed (entry_rules before) _ _ (λ refusal e. no_err done refusal e.0) passed.1 in
        pass (given.running, given.runs, passed.0) (pass room.0.0 (subst IsAccepted (sym replied) tt))
    by_answer (Err refusal) given replied =
        let rules = asked_of given.running signal in
        ⊎_elim
        (λ first. refuse (of_reactor first.0) (given.running, given.runs, first.0, refl, first.1)
        (replied.replied ∙ ap (λ x. Refused (of_reactor x)) (same_err refusal first.0 first.2.0)))
        (λ none. pass (given.running, given.runs, none.0) (has_room refusal replied.replied
        (mapped (entry_rules before) _ (λ given. refusal ≡ given) _ ⊥ (λ x e. same_err refusal x e.0)
        (λ e. no_ok refusal (record {}) e.0) none.1)))
        (first_or_none rules _ _ (split rules (entry_rules before) _ _ given.given))

  -- an entry that has room is added, where no memory is refused
  adds_named : {move : PastMove} → Answers (slot_entry_rules before) (λ refusal. IsRefused refusal before reply after)
      (AddsEntry move (stamp_of entries session) before reply after)
      → Named (journal_full before ▸ accept) reply
  adds_named = on (λ _ h. let adds = unmoved h in subst IsAccepted (sym adds.replied) tt)

  -- what the slot answers to a command of a session that lives
  slot_named : (command : SlotCommand) → IsLive entries session
      → SlotStep entries slot session command before reply after
      → Named (asked_rules entries slot session command before) reply
  slot_named (Move (Load l)) live =
      ⊎_elim (λ r. absurd (r.given.1 live)) (λ p. on (λ _. on (λ _ h. loads l.main l.text h)) p.next)
  slot_named (Move (Offer signal)) live =
      ⊎_elim (λ r. absurd (r.given.1 live)) (λ p. on (λ _. on (λ _ h. offers signal h)) p.next)
  slot_named (Move Discard) live =
      ⊎_elim (λ r. absurd (r.given.1 live)) (λ p. on (λ _. on (λ _. adds_named)) p.next)
  slot_named (Move (Step i)) live =
      ⊎_elim (λ r. absurd (r.given.1 live))
      (λ p. on
      (λ _. on (λ _. on (λ _ h. on (λ _. on (λ _ steps. subst IsAccepted (sym steps.replied) tt)) (unmoved h))))
      p.next)
  slot_named (Move Unload) live =
      ⊎_elim (λ r. absurd (r.given.1 live)) (λ p. on (λ _. on (λ _. adds_named)) p.next)
  slot_named (Look n) live =
      ⊎_elim (λ r. absurd (r.given.1 live))
      (λ p. on (λ _. on (λ _ h. let looks = unmoved h in subst IsAccepted (sym looks.replied) tt)) p.next)
  slot_named Audit live =
      ⊎_elim (λ r. absurd (r.given.1 live))
      (λ p. on (λ _ (h : Audits entries before reply after). subst IsAccepted (sym h.replied) tt) p.next)

module _ (m : Moment) (ample : ¬ (m.reply ≡ Refused Memory)) where
  -- the answer to a command on a slot
  desk_named : (version slot session : ℕ) (command : SlotCommand)
      → DeskStep slot session command (desk_at version (desk_of m.before)) m.reply (desk_at version (desk_of m.after))
      → Named (command_rules (take version m.before.entries) slot session command (journal_at m.before slot)) m.reply
  desk_named version slot session command =
      let entries : List Entry = take version m.before.entries in
      on (λ live. on
      (λ _ (h : InSlot slot session command (desk_at version (desk_of m.before)) m.reply
      (desk_at version (desk_of m.after))).
      slot_named entries slot session (journal_at m.before slot) m.reply h.journal ample command live
      (subst (λ j. SlotStep entries slot session command j m.reply h.journal) (sym (ap journal_in h.there)) h.step)))

  -- the answer to a policy command
  policy_named : (session : Option ℕ) (command : AdminCommand)
      → AdminStep session command (desk_of m.before) m.reply (desk_of m.after)
      → Named (all_told_as Policy (policy_rules m.before.entries session command) ▸▸ list_full m.before.entries
      (entry_of session command) ▸ accept) m.reply
  policy_named session command h = by_answer h.answer h.given h.replied where
    rules : Rules PolicyRefusal
    rules = policy_rules m.before.entries session command

    later : Rules Refusal
    later = list_full m.before.entries (entry_of session command) ▸ accept

    by_answer : (answer : Result Entry PolicyRefusal) → PolicyStep m.before.entries session command answer
        → MatchResult answer
        (λ entry. ByRules (list_full m.before.entries entry ▸ no_memory ▸ accept) (Appends entry)
        (desk_of m.before) m.reply (desk_of m.after))
        (λ refusal. IsRefused (Policy refusal) (desk_of m.before) m.reply (desk_of m.after))
        → Named (all_told_as Policy rules ▸▸ later) m.reply
    by_answer (Ok entry) given replied =
        append (all_told_as Policy rules) later _ _
        (told Policy rules _ _ _ _ (λ refusal e. no_err entry refusal e) (λ e. room (same_ok entry _ e) replied) given)
      where
        room : entry ≡ entry_of session command
            → ByRules (list_full m.before.entries entry ▸ no_memory ▸ accept) (Appends entry)
            (desk_of m.before) m.reply (desk_of m.after)
            → Named later m.reply
        room same h =
            on (λ _ n. by_memory n)
            (subst (λ e. ByRules (list_full m.before.entries e ▸ no_memory ▸ accept) (Appends e)
            (desk_of m.before) m.reply (desk_of m.after)) same h) where
              by_memory : ByRules (no_memory ▸ accept) (Appends (entry_of session command)) (desk_of m.before) m.reply
                  (desk_of m.after) → IsAccepted m.reply
              by_memory (inl r) = absurd (ample (r.answered.replied ∙ ap Refused r.given))
              by_memory (inr p) =
                  subst IsAccepted (sym p.next.replied)
                  (accepted_change (change_of (entry_of session command).command) m.before.entries)
    by_answer (Err refusal) given replied =
        append (all_told_as Policy rules) later _ _
        (told Policy rules _ _ _ _ (λ x e. replied.replied ∙ ap (λ y. Refused (Policy y)) (same_err refusal x e))
        (λ e. no_ok refusal _ e) given)

  event_named : (event : Event) → EventStep event m.before m.reply m.after → Named (rules_of event m.before) m.reply
  event_named (Admin seat session command) h = policy_named session command h.step
  event_named (OnSlot seat version slot session command) h =
      on (λ _. on
      (λ _ (j : Judged seat version slot session command m.before m.reply m.after). desk_named version slot session
      command j.step)) h

-- the reply to each moment's event is the first refusal of its rules
pub denial_law : (past : List Moment) (m : Moment) → Comes past m → ¬ (m.reply ≡ Refused Memory)
    → AnswersBy (rules_of m.event m.before) m.reply
denial_law past m comes ample = named (rules_of m.event m.before) m.reply
    (event_named m ample m.event (step_of past m comes))
