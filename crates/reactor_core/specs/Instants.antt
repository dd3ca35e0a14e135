-- The life of an instant: it is opened, settled and committed, or given up; and what each of these moves answers (this
-- project's own form).
use Rattle.std.specs.Prelude.{◌≡◌, ℕ, List, [], ◌∷◌, ◌++◌, Result, Ok, Err, MatchResult}
use Rattle.refusal_rules.specs.Rules.{Rule, accept, ◌▸◌, Answers}
use Rattle.est_kernel.specs.Bits.{bits}
use Rattle.est_kernel.specs.Term.{Term}
use Rattle.est_kernel.specs.declared.state.Stuck.{Stuck}
use Rattle.est_relations.specs.Keeping.{AreLawful}
use Rattle.est_relations.specs.Offers.{IsFirstImplied}
use Rattle.reactor_core.specs.declared.entry.Stamp.{Stamp}
use Rattle.reactor_core.specs.declared.entry.Move.TheVariants.{Step}
use Rattle.reactor_core.specs.declared.entry.SlotEntry.{SlotEntry}
use Rattle.reactor_core.specs.declared.refusal.ReactorRefusal.{ReactorRefusal}
use Rattle.reactor_core.specs.Faults.{implied}
use Rattle.reactor_core.specs.Reacting.{ReactsWith, IsStuck}
use Rattle.reactor_core.specs.Meaning.{entry, instant, Running, RunsAfter, Leaves, pending_of}
use Rattle.reactor_core.specs.Answers.{HasRoom, entry_rules}

-- the outcome of the next instant after these entries: the constructive reaction of the term that is left to the
-- pending inputs emits these outputs and leaves this term
pub record IsOutcome (journal : List SlotEntry) (outputs : ℕ) (next : Term) : Type 0 where
  pub running : Running
  pub runs : RunsAfter journal running
  pub term : Term
  pub leaves : Leaves journal term
  pub reacts : ReactsWith running.interface term running.pending outputs next

-- the next instant after these entries has no outcome: the term that is left has no constructive reaction to the
-- pending inputs, and exactly these outputs stay undecided
pub record HasNoOutcome (journal : List SlotEntry) (undecided : ℕ) : Type 0 where
  pub running : Running
  pub runs : RunsAfter journal running
  pub term : Term
  pub leaves : Leaves journal term
  pub stuck : IsStuck running.interface term running.pending undecided

-- what a contract sees of a settled instant: the journal of the reactor that it was opened from, and the outputs of its
-- outcome, whose term the two determine
pub record SettledInstant : Type 0 where
  pub journal : List SlotEntry
  pub outputs : ℕ

-- the instant of this outcome is added: its entry keeps the inputs that were pending and the outcome's outputs, and
-- what is left to run is the outcome's term
pub record AddsInstant (before : List SlotEntry) (outputs : ℕ) (next : Term) (stamp : Stamp)
    (after : List SlotEntry) : Type 0 where
  pub outcome : IsOutcome before outputs next
  pub room : HasRoom before
  pub appended : after ≡ before ++ entry stamp (Step (instant outcome.running.pending outputs)) ∷ []
  pub leaves : Leaves after next

-- the pending inputs lack the signal of this name, by the relation of this number, which is the first that does not
-- hold of them
pub record LacksImplied (journal : List SlotEntry) (number : ℕ) (missing : List ℕ) : Type 0 where
  pub running : Running
  pub runs : RunsAfter journal running
  pub first : IsFirstImplied (pending_of running) number missing

-- each relation holds of the pending inputs
pub record KeepsRelations (journal : List SlotEntry) : Type 0 where
  pub running : Running
  pub runs : RunsAfter journal running
  pub lawful : AreLawful running.relations (bits running.pending)

-- refuses where the pending inputs lack an implied one, with the refusal of the relation's number and the signal's
-- name; and lets pass where each relation holds of them
abbrev pub not_ready : {R : Type 0} → (ℕ → List ℕ → R) → List SlotEntry → Rule R
not_ready implied journal = record {
  refuses = λ refusal. (number : ℕ) × (missing : List ℕ) × (refusal ≡ implied number missing)
      × LacksImplied journal number missing;
  passes = KeepsRelations journal;
}

-- the answer to opening an instant: Implied where the pending inputs lack an implied one, and the reactor as it was; or
-- the reactor's instant
abbrev pub OpenAnswer : (before : List SlotEntry) → Result (List SlotEntry) (ReactorRefusal × List SlotEntry) → Type 0
OpenAnswer before answer =
    Answers (not_ready implied before ▸ accept) (λ refusal. answer ≡ Err (refusal, before)) (answer ≡ Ok before)

-- the answer to settling: the outcome, exactly when there is one, or else the undecided outputs, and the reactor as it
-- was
abbrev pub SettleAnswer : (before : List SlotEntry) → Result SettledInstant (Stuck × List SlotEntry) → Type 0
SettleAnswer before answer =
    MatchResult answer
    (λ settled. (settled.journal ≡ before) × ((next : Term) × IsOutcome before settled.outputs next))
    (λ refused. HasNoOutcome before refused.0.undecided × (refused.1 ≡ before))

-- the answer to committing: by the rules for an entry a refusal, and the reactor as it was, or the reactor with the
-- instant
abbrev pub CommitAnswer : SettledInstant → Stamp → Result (List SlotEntry) (ReactorRefusal × List SlotEntry) → Type 0
CommitAnswer settled stamp answer =
    Answers (entry_rules settled.journal)
    (λ refusal. answer ≡ Err (refusal, settled.journal))
    ((after : List SlotEntry) × (answer ≡ Ok after)
    × ((next : Term) × AddsInstant settled.journal settled.outputs next stamp after))
