-- The slot step: what a command on a slot is answered, on a policy list and the slot's journal, and the journal
-- afterwards (this project's own form).
use Rattle.std.specs.Prelude.{◌≡◌, ℕ, Bool, true, List, [], ◌∷◌, ◌++◌, Option, Some, None, Result, MatchResult, length}
use Rattle.std.specs.Prelude.{if◌then◌else◌}
use Rattle.refusal_rules.specs.Rules.{Rule, Rules, RefuseIf, RefuseUnless, AllPass, FirstRefuses, accept, ◌▸◌, ◌▸▸◌}
use Rattle.est_kernel.specs.Term.{Term}
use Rattle.est_relations.specs.declared.refusal.PendingRefusal.TheVariants.{Implied}
use Rattle.rbac_policy.specs.declared.commands.Entry.{Entry}
use Rattle.rbac_policy.specs.declared.objects.Operation.{Operation}
use Rattle.rbac_policy.specs.declared.objects.Object.{Object}
use Rattle.rbac_policy.specs.declared.objects.Operation.TheVariants.{Load as ToLoad}
use Rattle.rbac_policy.specs.declared.objects.Object.TheVariants.{Slot}
use Rattle.rbac_policy.specs.Facts.{IsLive, May}
use Rattle.rbac_admin.specs.declared.refusal.PolicyRefusal.TheVariants as policy
use Rattle.reactor_core.specs.declared.entry.Stamp.{Stamp}
use Rattle.reactor_core.specs.declared.entry.PastInstant.{PastInstant}
use Rattle.reactor_core.specs.Meaning.{PastMove}
use Rattle.reactor_core.specs.declared.entry.Move.TheVariants.{Load, Offer, Discard, Step, Unload}
use Rattle.reactor_core.specs.declared.entry.SlotEntry.{SlotEntry}
use Rattle.reactor_core.specs.declared.entry.SlotWord.{SlotWord}
use Rattle.reactor_core.specs.declared.entry.SlotWord.TheVariants as word
use Rattle.reactor_core.specs.declared.refusal.ReactorRefusal.{ReactorRefusal}
use Rattle.reactor_core.specs.declared.refusal.ModuleRefusal.TheVariants.{Pending, NoInstant}
use Rattle.reactor_core.specs.Meaning.{entry, is_loaded, instants_of, word_of, Running, RunsAfter}
use Rattle.reactor_core.specs.Answers.{LoadAnswer, ReactorOfferAnswer, HasRoom, IsInstant, HasNoInstant}
use Rattle.reactor_core.specs.Instants.{IsOutcome, HasNoOutcome, AddsInstant, not_ready}
use Rattle.access_core.specs.declared.command.SlotCommand.{SlotCommand}
use Rattle.access_core.specs.declared.command.SlotCommand.TheVariants.{Move, Look, Audit}
use Rattle.access_core.specs.declared.refusal.Refusal.{Refusal}
use Rattle.access_core.specs.declared.refusal.Refusal.TheVariants.{Policy, Module, Stuck, Occupied, Empty, JournalFull}
use Rattle.access_core.specs.declared.reply.Reply.{Reply}
use Rattle.access_core.specs.declared.reply.Reply.TheVariants.{Added, Look as Shown, Audit as Audited}
use Rattle.access_core.specs.Answering.{IsRefused, ByRules, no_memory}
use Rattle.access_core.specs.Needs.{permission_of}
use Rattle.access_core.specs.Refusals.{of_reactor}
use Rattle.access_core.specs.Shown.{Observes, shown_of, names_of}

-- refuses a session that doesn't live
abbrev pub no_session : List Entry → (session : ℕ) → Rule Refusal
no_session entries session = RefuseUnless (IsLive entries session) (Policy policy.NoSession)

-- refuses a session that may not do the operation on the object
abbrev pub no_permission : List Entry → (session : ℕ) → Operation → Object → Rule Refusal
no_permission entries session operation object = RefuseUnless (May entries session operation object)
    (Policy (policy.Permission operation object))

-- refuses where a module runs in the slot
abbrev pub occupied : List SlotEntry → Rule Refusal
occupied journal = RefuseIf Occupied (is_loaded journal ≡ true)

-- refuses where no module runs in the slot
abbrev pub empty : List SlotEntry → Rule Refusal
empty journal = RefuseUnless (is_loaded journal ≡ true) Empty

-- refuses where the module that runs had no instant of this number since its load
abbrev pub no_instant : List SlotEntry → (n : ℕ) → Rule Refusal
no_instant journal n = RefuseIf (Module NoInstant) (HasNoInstant journal n)

-- the refusal of a step whose pending inputs lack one that a relation implies
abbrev pub implied_refusal : (relation : ℕ) → (missing : List ℕ) → Refusal
implied_refusal relation missing = Module (Pending (Implied relation missing))

-- what an entry bears: the version at which its command was judged, and the session that gave the command
abbrev pub stamp_of : List Entry → (session : ℕ) → Stamp
stamp_of entries session = record { version = length entries; session = session }

-- the reply to the command of this word, which was judged at this version and added the last entry of this journal
abbrev pub tells_added : SlotWord → (version : ℕ) → (after : List SlotEntry) → Reply
tells_added asked version after = Added (record {
  word = asked;
  place = length after;
  version = version;
  instants = length (instants_of after);
})

-- the reactor's answer to a load: its entry is appended, or the load is refused by the text, the journal's limit or for
-- memory
pub record Loads (stamp : Stamp) (main text : List ℕ) (before : List SlotEntry) (reply : Reply)
    (after : List SlotEntry) : Type 0 where
  pub answer : Result (List SlotEntry) (ReactorRefusal × List SlotEntry)
  pub given : LoadAnswer before stamp main text answer
  pub replied : MatchResult answer
      (λ journal. (after ≡ journal) × (reply ≡ tells_added word.Load stamp.version after))
      (λ refused. IsRefused (of_reactor refused.0) before reply after)

-- the reactor's answer to an offer: its entry is appended, or it is refused by the signal, a relation, the journal's
-- limit or for memory
pub record Offers (stamp : Stamp) (signal : List ℕ) (before : List SlotEntry) (reply : Reply)
    (after : List SlotEntry) : Type 0 where
  pub answer : Result (Unit {0}) ReactorRefusal
  pub given : ReactorOfferAnswer before stamp signal answer after
  pub replied : MatchResult answer
      (λ _. reply ≡ tells_added word.Offer stamp.version after)
      (λ refusal. IsRefused (of_reactor refusal) before reply after)

-- the entry of the move is appended, and the reply tells so
pub record AddsEntry (done : PastMove) (stamp : Stamp) (before : List SlotEntry) (reply : Reply)
    (after : List SlotEntry) : Type 0 where
  pub added : after ≡ before ++ entry stamp done ∷ []
  pub replied : reply ≡ tells_added (word_of done) stamp.version after

-- the next instant has no outcome: its pending inputs have no constructive reaction, and the refusal names those of the
-- undecided outputs and inputoutputs that the session may observe
pub record NamesUndecided (entries : List Entry) (slot session : ℕ) (journal : List SlotEntry)
    (refusal : Refusal) : Type 0 where
  pub undecided : ℕ
  pub none : HasNoOutcome journal undecided
  pub running : Running
  pub runs : RunsAfter journal running
  pub sees : ℕ → Bool
  pub observes : Observes entries session slot running.interface sees
  pub named : refusal ≡ Stuck (names_of running.interface sees undecided)

-- refuses where the next instant has no outcome; where it has one, hands the outcome on
abbrev pub no_reaction : List Entry → (slot session : ℕ) → List SlotEntry → Rule Refusal
no_reaction entries slot session journal = record {
  refuses = NamesUndecided entries slot session journal;
  passes = (outputs : ℕ) × (next : Term) × IsOutcome journal outputs next;
}

-- refuses where the journal has as many entries as it may have
abbrev pub journal_full : List SlotEntry → Rule Refusal
journal_full journal = RefuseUnless (HasRoom journal) JournalFull

-- the instant of the outcome is added with its entry, and the reply tells its number
pub record Steps (stamp : Stamp) (before : List SlotEntry) (reply : Reply) (after : List SlotEntry) : Type 0 where
  pub outputs : ℕ
  pub next : Term
  pub adds : AddsInstant before outputs next stamp after
  pub replied : reply ≡ tells_added word.Step stamp.version after

-- the n-th instant since the load is shown: each signal that the session may observe, and whether it was present
pub record Looks (entries : List Entry) (slot session n : ℕ) (before : List SlotEntry) (reply : Reply)
    (after : List SlotEntry) : Type 0 where
  pub running : Running
  pub runs : RunsAfter before running
  pub instant : PastInstant
  pub there : IsInstant before n instant
  pub sees : ℕ → Bool
  pub observes : Observes entries session slot running.interface sees
  pub replied : reply ≡ Shown n (shown_of running.interface sees instant) (length entries)
  pub stays : after ≡ before

-- how many instants there were since the load; none where no module runs
abbrev pub instants_run : List SlotEntry → ℕ
instants_run journal = if is_loaded journal then length (instants_of journal) else 0

-- the reply tells how many entries the journal has, and how many instants there were since the load; nothing is changed
pub record Audits (entries : List Entry) (before : List SlotEntry) (reply : Reply)
    (after : List SlotEntry) : Type 0 where
  pub replied : reply ≡ Audited (length before) (instants_run before) (length entries)
  pub stays : after ≡ before

-- the rules of who may give a command: the session lives, and has the permission that is needed, if any
abbrev pub access_rules : List Entry → (session : ℕ) → (needed : Option (Operation × Object)) → Rules Refusal
access_rules entries session None = no_session entries session ▸ accept
access_rules entries session (Some permission) =
    no_session entries session ▸ no_permission entries session permission.0 permission.1 ▸ accept

-- the rules of who may load the slot
abbrev pub admit_rules : List Entry → (slot session : ℕ) → Rules Refusal
admit_rules entries slot session = access_rules entries session (Some (ToLoad, Slot slot))

-- the answer to a session that asks whether it may load the slot: what the load's entry is to bear, where the rules let
-- it pass; else the refusal of the first rule that does not
abbrev pub IsAdmitted : List Entry → (slot session : ℕ) → Result Stamp Refusal → Type 0
IsAdmitted entries slot session answer =
    MatchResult answer (λ stamp. (stamp ≡ stamp_of entries session) × AllPass (admit_rules entries slot session))
    (FirstRefuses (admit_rules entries slot session))

-- the rules of an entry where a module runs: the journal has room, and memory may be refused
abbrev pub slot_entry_rules : List SlotEntry → Rules Refusal
slot_entry_rules journal = journal_full journal ▸ no_memory ▸ accept

-- the rules of an instant that may take the pending inputs
abbrev pub settle_rules : List Entry → (slot session : ℕ) → List SlotEntry → Rules Refusal
settle_rules entries slot session journal = no_memory ▸ no_reaction entries slot session journal ▸ journal_full journal
    ▸ accept

-- the rules of a step where a module runs: its relations hold of the pending inputs, and then those of the instant
abbrev pub step_rules : List Entry → (slot session : ℕ) → List SlotEntry → Rules Refusal
step_rules entries slot session journal = not_ready implied_refusal journal ▸ settle_rules entries slot session journal

-- the rules of what the command asks of the slot
abbrev pub journal_rules : List Entry → (slot session : ℕ) → SlotCommand → List SlotEntry → Rules Refusal
journal_rules entries slot session (Move (Load l)) journal = occupied journal ▸ accept
journal_rules entries slot session (Move (Offer signal)) journal = empty journal ▸ accept
journal_rules entries slot session (Move Discard) journal = empty journal ▸ slot_entry_rules journal
journal_rules entries slot session (Move (Step i)) journal = empty journal ▸ step_rules entries slot session journal
journal_rules entries slot session (Move Unload) journal = empty journal ▸ slot_entry_rules journal
journal_rules entries slot session (Look n) journal = empty journal ▸ no_instant journal n ▸ no_memory ▸ accept
journal_rules entries slot session Audit journal = accept

-- the rules of refusal of the command, in their order
abbrev pub slot_rules : List Entry → (slot session : ℕ) → SlotCommand → List SlotEntry → Rules Refusal
slot_rules entries slot session command journal =
    access_rules entries session (permission_of slot command) ▸▸ journal_rules entries slot session command journal

-- what follows the rules above: the reply, and the journal afterwards. For a load and an offer it is the reactor's
-- answer, which may be a refusal
abbrev pub Does : List Entry → (slot session : ℕ) → SlotCommand → (before : List SlotEntry) → Reply
    → (after : List SlotEntry) → Type 0
Does entries slot session (Move (Load l)) = Loads (stamp_of entries session) l.main l.text
Does entries slot session (Move (Offer signal)) = Offers (stamp_of entries session) signal
Does entries slot session (Move Discard) = AddsEntry Discard (stamp_of entries session)
Does entries slot session (Move (Step i)) = Steps (stamp_of entries session)
Does entries slot session (Move Unload) = AddsEntry Unload (stamp_of entries session)
Does entries slot session (Look n) = Looks entries slot session n
Does entries slot session Audit = Audits entries

-- the reply to the command, which this session gives to this slot, on a policy list and a journal, and the journal
-- afterwards
abbrev pub SlotStep : List Entry → (slot session : ℕ) → SlotCommand → (before : List SlotEntry) → Reply
    → (after : List SlotEntry) → Type 0
SlotStep entries slot session command before =
    ByRules (slot_rules entries slot session command before) (Does entries slot session command) before
