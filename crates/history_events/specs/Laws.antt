-- The laws of runs (this project's own form). Each speaks of a moment, and of the past: the moments of its run that
-- come before it.
use Rattle.std.specs.Prelude.{◌≡◌, ◌↔◌, ℕ, true, List, Some, take, slice_get}
use Rattle.rbac_policy.specs.declared.objects.Operation.TheVariants.{Offer as ToOffer, Step as ToStep}
use Rattle.rbac_policy.specs.declared.objects.Object.TheVariants.{Slot, Signal}
use Rattle.rbac_policy.specs.Facts.{IsLive, May}
use Rattle.reactor_core.specs.Instants.{KeepsRelations}
use Rattle.reactor_core.specs.Meaning.{Running, RunsAfter, is_loaded}
use Rattle.reactor_core.specs.declared.entry.Move.TheVariants.{Offer, Step}
use Rattle.access_core.specs.declared.command.SlotCommand.TheVariants.{Move, Look}
use Rattle.access_core.specs.declared.refusal.Refusal.TheVariants.{Memory}
use Rattle.access_core.specs.declared.reply.Reply.TheVariants.{Refused}
use Rattle.access_core.specs.Needs.{IsAccepted}
use Rattle.history_events.specs.declared.event.Event.{Event}
use Rattle.history_events.specs.declared.event.Event.TheVariants.{OnSlot}
use Rattle.history_events.specs.Accepting.{MeetsNoLimit, IsInputName, IsExcluded, HasInstant, HasReaction}
use Rattle.history_events.specs.EventChanges.{Changes}
use Rattle.history_events.specs.Denying.{AnswersBy, rules_of}
use Rattle.history_events.specs.Entering.{Accepts, IsStep, WasOffered, Enters}
use Rattle.history_events.specs.OneRun.{events_of}
use Rattle.history_events.specs.Runs.{Moment, IsRun, Comes, journal_at}
use Rattle.history_events.specs.Showing.{ShowsReaction}

-- the fact holds of each moment of each run, and of its past
abbrev pub InEachRun : (Fact : (past : List Moment) → Moment → Type 0) → Type 0
InEachRun Fact = (past : List Moment) (m : Moment) → Comes past m → Fact past m

-- whatever events are sent, in whatever order, the fact holds of each moment of their run, and of its past
abbrev pub WhateverIsSent : (Fact : (past : List Moment) → Moment → Type 0) → Type 0
WhateverIsSent Fact =
    (events : List Event) (run : List Moment) → IsRun run → events_of run ≡ events
    → (n : ℕ) (m : Moment) → slice_get run n ≡ Some m → Fact (take n run) m

-- a signal stands in the inputs of an accepted step exactly when an offer of it was accepted in the slot since the
-- slot's last accepted load, step or discard
abbrev pub EntersWhereOffered : (past : List Moment) → Moment → Type 0
EntersWhereOffered past m =
    (slot : ℕ) (name : List ℕ) → Accepts slot IsStep m → (Enters m slot name ↔ WasOffered past slot name)

-- an offer of an input or inputoutput that isn't pending, in a slot where a module runs, is accepted exactly when the
-- session may offer that signal there at the version of the event and no exclusion would be broken, unless a limit is
-- met
abbrev pub OffersWhereAllowed : (past : List Moment) → Moment → Type 0
OffersWhereAllowed past m =
    (seat version slot session : ℕ) (name : List ℕ) (running : Running)
    → m.event ≡ OnSlot seat version slot session (Move (Offer name)) → MeetsNoLimit m.reply
    → RunsAfter (journal_at m.before slot) running → IsInputName running.interface name → ¬ (WasOffered past slot name)
    → (IsAccepted m.reply
    ↔ (May (take version m.before.entries) session ToOffer (Signal slot name) × ¬ (IsExcluded running name)))

-- a step of a slot where a module runs is accepted exactly when the session may step the slot at the version of the
-- event, each relation holds of what is pending, and there is a constructive reaction to it, unless a limit is met
abbrev pub StepsWhereAllowed : (past : List Moment) → Moment → Type 0
StepsWhereAllowed past m =
    (seat version slot session : ℕ) (running : Running)
    → m.event ≡ OnSlot seat version slot session (Move (Step (record {}))) → MeetsNoLimit m.reply
    → RunsAfter (journal_at m.before slot) running
    → (IsAccepted m.reply
    ↔ (May (take version m.before.entries) session ToStep (Slot slot) × KeepsRelations (journal_at m.before slot)
    × HasReaction (journal_at m.before slot)))

-- a look is answered exactly when its session lives at the version of the event, a module runs in the slot, and the
-- instant is there, unless a limit is met
abbrev pub LooksWhereThere : (past : List Moment) → Moment → Type 0
LooksWhereThere past m =
    (seat version slot session n : ℕ) → m.event ≡ OnSlot seat version slot session (Look n) → MeetsNoLimit m.reply
    → (IsAccepted m.reply
    ↔ (IsLive (take version m.before.entries) session × (is_loaded (journal_at m.before slot) ≡ true)
    × HasInstant (journal_at m.before slot) n))

-- an accepted look at an instant shows exactly the signals that its session may observe, with their statuses in the
-- constructive reaction to the inputs of the step that was answered with that instant's number since the slot's last
-- load
abbrev pub LooksShowTheReaction : (past : List Moment) → Moment → Type 0
LooksShowTheReaction past m =
    (seat version slot session n : ℕ) → m.event ≡ OnSlot seat version slot session (Look n) → IsAccepted m.reply
    → ShowsReaction past m version slot session n

-- the event changes its one list by its one entry, which is allowed and for which there is room, or nothing
abbrev pub ChangesWhatIsAllowed : (past : List Moment) → Moment → Type 0
ChangesWhatIsAllowed past m = Changes m.event m

-- unless memory was refused, the reply is by the rules of the event in their order: the refusal of the first rule that
-- refuses, or no refusal if all let pass
abbrev pub DenialsNameTheFirst : (past : List Moment) → Moment → Type 0
DenialsNameTheFirst past m = ¬ (m.reply ≡ Refused Memory) → AnswersBy (rules_of m.event m.before) m.reply

-- a signal enters an instant exactly when an active role's permission and the declared relations allow it
pub record EntersAsAllowed (past : List Moment) (m : Moment) : Type 0 where
  pub enters : EntersWhereOffered past m
  pub offers : OffersWhereAllowed past m
  pub steps : StepsWhereAllowed past m

-- a session is shown exactly the statuses of the signals that it may observe, in the constructive reaction to that
-- instant's inputs
pub record ShowsAsAllowed (past : List Moment) (m : Moment) : Type 0 where
  pub there : LooksWhereThere past m
  pub shows : LooksShowTheReaction past m
