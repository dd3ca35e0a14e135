-- The reply to a step, from the moves of its instant.
use Rattle.std.proofs.Common.{◌≡◌, ◌⊎◌, ◌∙◌, ℕ, true, List, refl, ap, subst, inl, inr}
use Rattle.std.specs.Prelude.{Result, Ok, Err}
use Rattle.refusal_rules.specs.Rules.{MayRefuse, accept, ◌▸◌, Answers}
use Rattle.refusal_rules.proofs.RuleLemmas.{refuse, pass}
use Rattle.est_kernel.specs.Term.{Term}
use Rattle.rbac_policy.specs.declared.commands.Entry.{Entry}
use Rattle.rbac_policy.specs.declared.objects.Operation.TheVariants.{Step as ToStep}
use Rattle.rbac_policy.specs.declared.objects.Object.TheVariants.{Slot}
use Rattle.rbac_policy.specs.Facts.{IsLive, May}
use Rattle.reactor_core.specs.declared.entry.Stamp.{Stamp}
use Rattle.reactor_core.specs.declared.entry.Move.TheVariants.{Step}
use Rattle.reactor_core.specs.declared.entry.SlotEntry.{SlotEntry}
use Rattle.reactor_core.specs.declared.entry.SlotWord.TheVariants as word
use Rattle.reactor_core.specs.declared.refusal.ReactorRefusal.{ReactorRefusal}
use Rattle.reactor_core.specs.declared.refusal.ReactorRefusal.TheVariants as reactor
use Rattle.reactor_core.specs.Meaning.{is_loaded}
use Rattle.reactor_core.specs.Instants.{IsOutcome, AddsInstant, SettledInstant, CommitAnswer, OpenAnswer}
use Rattle.reactor_core.specs.Instants.{KeepsRelations}
use Rattle.reactor_core.proofs.OneMeaning.{OneModule, not_both, ready_or_lacking}
use Rattle.access_core.specs.declared.command.SlotCommand.{SlotCommand}
use Rattle.access_core.specs.declared.command.SlotCommand.TheVariants.{Move}
use Rattle.access_core.specs.declared.refusal.Refusal.{Refusal}
use Rattle.access_core.specs.declared.refusal.Refusal.TheVariants.{Stuck, JournalFull, Memory}
use Rattle.access_core.specs.declared.reply.Reply.{Reply}
use Rattle.access_core.specs.declared.reply.Reply.TheVariants.{Refused}
use Rattle.access_core.specs.Refusals.{of_reactor}
use Rattle.access_core.specs.Answering.{ByRules, no_memory}
use Rattle.access_core.specs.SlotStep.{SlotStep, no_permission, empty, NamesUndecided, no_reaction, journal_full}
use Rattle.access_core.specs.SlotStep.{settle_rules, step_rules, implied_refusal, Steps, stamp_of, tells_added}
use Rattle.access_core.specs.StuckSteps.{ReachesReactor, IsStuckExactly}
use Rattle.est_relations.proofs.OffersKeep.{no_fault}

module _ (stamp : Stamp) (settled : SettledInstant) (refused : ReactorRefusal × List SlotEntry) where
  abbrev answer : Result (List SlotEntry) (ReactorRefusal × List SlotEntry)
  answer = Err refused

  abbrev Told : Type 0
  Told = ByRules (no_memory ▸ journal_full settled.journal ▸ accept) (Steps stamp) settled.journal
      (Refused (of_reactor refused.0)) refused.1

  -- memory is refused for the instant's entry
  no_entry : Answers (MayRefuse reactor.Memory ▸ accept) (λ given. answer ≡ Err (given, settled.journal))
      ((added : List SlotEntry) × (answer ≡ Ok added)
      × ((next : Term) × AddsInstant settled.journal settled.outputs next stamp added))
      → Told
  no_entry (inl memory) =
      let told = memory.answered in
      let same : refused ≡ (memory.refusal, settled.journal) = cc in
      refuse Memory refl (record {
        replied = ap Refused (ap of_reactor (ap (λ (r : ReactorRefusal × List SlotEntry). r.0) same ∙ memory.given));
        stays = ap (λ (r : ReactorRefusal × List SlotEntry). r.1) same;
      })
  no_entry (inr added) = let no = added.next.1 in absurd cc

  -- the journal refuses the instant's entry
  pub commit_refused : CommitAnswer settled stamp (Err refused)
      → ByRules (no_memory ▸ journal_full settled.journal ▸ accept) (Steps stamp) settled.journal
      (Refused (of_reactor refused.0)) refused.1
  commit_refused (inl full) =
      let told = full.answered in
      let same : refused ≡ (full.refusal, settled.journal) = cc in
      pass (record {}) (refuse JournalFull (refl, full.given.1) (record {
        replied = ap Refused (ap of_reactor (ap (λ (r : ReactorRefusal × List SlotEntry). r.0) same ∙ full.given.0));
        stays = ap (λ (r : ReactorRefusal × List SlotEntry). r.1) same;
      }))
  commit_refused (inr room) = no_entry room.next

-- the instant is added
pub commit_accepted : (stamp : Stamp) (before after : List SlotEntry) (o : ℕ) (t : Term) (reply : Reply)
    → AddsInstant before o t stamp after → reply ≡ tells_added word.Step stamp.version after
    → ByRules (no_memory ▸ journal_full before ▸ accept) (Steps stamp) before reply after
commit_accepted stamp before after o t reply adds replied =
    pass (record {}) (pass adds.room (record { outputs = o; next = t; adds = adds; replied = replied }))

-- an instant that is settled
pub step_settled : (entries : List Entry) (slot session : ℕ) (stamp : Stamp) (before : List SlotEntry) (o : ℕ)
    (t : Term) (reply : Reply) (after : List SlotEntry)
    → IsOutcome before o t → ByRules (no_memory ▸ journal_full before ▸ accept) (Steps stamp) before reply after
    → ByRules (settle_rules entries slot session before) (Steps stamp) before reply after
step_settled entries slot session stamp before o t reply after reacts (inl memory) = inl memory
step_settled entries slot session stamp before o t reply after reacts (inr passes) =
    pass passes.passed (pass (o, t, reacts) passes.next)

-- an instant that can't be settled
pub step_stuck : (entries : List Entry) (slot session : ℕ) (stamp : Stamp) (before : List SlotEntry) (refusal : Refusal)
    (after : List SlotEntry)
    → no_memory.refuses refusal ⊎ NamesUndecided entries slot session before refusal → after ≡ before
    → ByRules (settle_rules entries slot session before) (Steps stamp) before (Refused refusal) after
step_stuck entries slot session stamp before refusal after (inl memory) same =
    refuse refusal memory (record { replied = refl; stays = same })
step_stuck entries slot session stamp before refusal after (inr named) same =
    pass (record {}) (refuse refusal named (record { replied = refl; stays = same }))

same_ok : {A E : Type 0} (a b : A) → ◌≡◌ {A = Result A E} (Ok a) (Ok b) → a ≡ b
same_ok a b h = cc

module _ (entries : List Entry) (slot session : ℕ) (stamp : Stamp) (before : List SlotEntry) where
  -- an instant that is opened
  pub step_opened : (opened : List SlotEntry) (reply : Reply) (after : List SlotEntry) → OpenAnswer before (Ok opened)
      → ByRules (settle_rules entries slot session opened) (Steps stamp) opened reply after
      → ByRules (step_rules entries slot session before) (Steps stamp) before reply after
  step_opened opened reply after (inl lacks) h = absurd (no_fault opened (lacks.refusal, before) lacks.answered)
  step_opened opened reply after (inr passes) h =
      let same : opened ≡ before = same_ok opened before passes.next in
      pass passes.passed
      (subst (λ (journal : List SlotEntry). ByRules (settle_rules entries slot session journal)
      (Steps stamp) journal reply after) same h)

  -- an instant that may not be opened, since its inputs lack an implied one
  pub step_lacking : (refusal : ReactorRefusal) (after : List SlotEntry) (reply : Reply)
      → OpenAnswer before (Err (refusal, after)) → reply ≡ Refused (of_reactor refusal)
      → ByRules (step_rules entries slot session before) (Steps stamp) before reply after
  step_lacking refusal after reply (inl lacks) replied =
      let told = lacks.answered in
      let given = lacks.given in
      let same : ◌≡◌ {A = ReactorRefusal × List SlotEntry} (refusal, after) (lacks.refusal, before) = cc in
      refuse (implied_refusal given.0 given.1) (given.0, given.1, refl, given.3) (record {
        replied = replied ∙ ap Refused (ap of_reactor
            (ap (λ (r : ReactorRefusal × List SlotEntry). r.0) same ∙ given.2));
        stays = ap (λ (r : ReactorRefusal × List SlotEntry). r.1) same;
      })
  step_lacking refusal after reply (inr passes) replied = let no = passes.next in absurd cc

module _ (modules : OneModule) (entries : List Entry) (slot session : ℕ) (stamp : Stamp) (before : List SlotEntry)
    (reply : Reply) (after : List SlotEntry) where
  -- where there is an outcome, the step isn't stuck
  not_stuck : (o : ℕ) (t : Term) → IsOutcome before o t → ByRules (journal_full before ▸ accept)
      (Steps stamp) before reply after
      → IsStuckExactly entries slot session before reply
  not_stuck o t reacts answer = record {
    only = λ names stuck. absurd (told answer names stuck);
    whenever = λ undecided none. absurd (not_both modules before o t undecided reacts none);
  } where
    told : ByRules (journal_full before ▸ accept) (Steps stamp) before reply after → (names : List (List ℕ))
        → reply ≡ Refused (Stuck names) → ⊥
    told (inl full) names stuck = let why = full.given.0 in let e = full.answered.replied in cc
    told (inr passes) names stuck = let e = passes.next.replied in cc

  judged : ByRules (settle_rules entries slot session before) (Steps stamp) before reply after
      → IsStuckExactly entries slot session before reply
  judged (inl memory) =
      let why = memory.given in
      let e = memory.answered.replied in
      record { only = λ names stuck. absurd cc; whenever = λ undecided none. inr (e ∙ ap Refused why) }
  judged (inr passes) = reacted passes.next where
    reacted : ByRules (no_reaction entries slot session before ▸ journal_full before ▸ accept)
        (Steps stamp) before reply after
        → IsStuckExactly entries slot session before reply
    reacted (inl stuck) =
        let e = stuck.answered.replied in
        record {
          only = λ names told.
              let same : stuck.refusal ≡ Stuck names = cc in
              subst (λ (refusal : Refusal). NamesUndecided entries slot session before refusal) same stuck.given;
          whenever = λ undecided none. inl (_, e ∙ ap Refused stuck.given.named);
        }
    reacted (inr passes) = not_stuck passes.passed.0 passes.passed.1 passes.passed.2 passes.next

  -- a step whose pending inputs keep each relation is answered by its instant
  taken : KeepsRelations before → ByRules (step_rules entries slot session before) (Steps stamp) before reply after
      → IsStuckExactly entries slot session before reply
  taken keeps (inl lacks) =
      let why = lacks.given in
      absurd (ready_or_lacking modules before why.0 why.1 why.3 keeps)
  taken keeps (inr passes) = judged passes.next

-- a step that reaches the reactor is Stuck exactly when there is no reaction
at_reactor : OneModule → (entries : List Entry) (slot session : ℕ) (before : List SlotEntry) (reply : Reply)
    (after : List SlotEntry)
    → IsLive entries session → May entries session ToStep (Slot slot) → is_loaded before ≡ true → KeepsRelations before
    → SlotStep entries slot session (Move (Step (record {}))) before reply after
    → IsStuckExactly entries slot session before reply
at_reactor modules entries slot session before reply after live may runs keeps (inl dead) = absurd (dead.given.1 live)
at_reactor modules entries slot session before reply after live may runs keeps (inr passes) =
    permitted passes.next where
      loaded : ByRules (empty before ▸ step_rules entries slot session before)
          (Steps (stamp_of entries session)) before reply after
          → IsStuckExactly entries slot session before reply
      loaded (inl none) = absurd (none.given.1 runs)
      loaded (inr passes) = taken modules entries slot session
          (stamp_of entries session) before reply after keeps passes.next

      permitted : ByRules
          (no_permission entries session ToStep (Slot slot) ▸ empty before ▸ step_rules entries slot session before)
          (Steps (stamp_of entries session)) before reply after
          → IsStuckExactly entries slot session before reply
      permitted (inl denied) = absurd (denied.given.1 may)
      permitted (inr passes) = loaded passes.next

pub stuck_exactly : OneModule → (entries : List Entry) (slot session : ℕ) (command : SlotCommand)
    (before : List SlotEntry) (reply : Reply) (after : List SlotEntry)
    → SlotStep entries slot session command before reply after → ReachesReactor entries slot session command before
    → IsStuckExactly entries slot session before reply
stuck_exactly modules entries slot session command before reply after h reaches =
    at_reactor modules entries slot session before reply after reaches.lives reaches.may reaches.loaded reaches.ready
    (subst (λ (command : SlotCommand). SlotStep entries slot session command before reply after) reaches.steps h)
