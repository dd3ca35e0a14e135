-- A signal enters an instant where it was offered.
use Rattle.std.proofs.Common.{◌≡◌, ◌↔◌, ℕ, List, [], ◌∷◌, ◌++◌, take, sym, ◌∙◌, ap, inl, inr, subst}
use Rattle.reactor_core.specs.Meaning.{PastMove}
use Rattle.reactor_core.specs.declared.entry.Move.TheVariants.{Step}
use Rattle.reactor_core.specs.declared.entry.Stamp.{Stamp}
use Rattle.reactor_core.specs.declared.entry.PastInstant.{PastInstant}
use Rattle.reactor_core.specs.declared.entry.SlotEntry.{SlotEntry}
use Rattle.reactor_core.specs.Meaning.{entry, instant, Running}
use Rattle.reactor_core.proofs.OneMeaning.{OneModule, same_running}
use Rattle.access_core.specs.declared.command.SlotCommand.{SlotCommand}
use Rattle.access_core.specs.declared.command.SlotCommand.TheVariants.{Move}
use Rattle.history_events.specs.declared.event.Event.{Event}
use Rattle.history_events.specs.declared.event.Event.TheVariants.{Admin, OnSlot}
use Rattle.history_events.specs.SlotAdditions.{ChangesJournal, IsMoveOf, RunsInstant}
use Rattle.history_events.specs.Entering.{Accepts, IsOn, IsStep, WasOffered, StandsIn, AddsInstantAt, Enters}
use Rattle.history_events.specs.Runs.{Moment, EventStep, Comes, journal_at}
use Rattle.history_events.proofs.Following.{reached}
use Rattle.history_events.proofs.Placing.{event_moves}
use Rattle.history_events.proofs.Pendings.{step_adds, pending_as_offered}

last_same : {A : Type 0} (xs : List A) (x y : A) → xs ++ x ∷ [] ≡ xs ++ y ∷ [] → x ≡ y
last_same [] x y e = cc
last_same (z ∷ xs) x y e = let tails : xs ++ x ∷ [] ≡ xs ++ y ∷ [] = cc in last_same xs x y tails

-- a moment that a run comes to is a step
pub step_of : (past : List Moment) (m : Moment) → Comes past m → EventStep m.event m.before m.reply m.after
step_of past m comes = (reached (λ past world. Unit {0}) (λ past m were step. tt) tt past m comes).step

-- one moment adds one instant at most
pub same_instant : OneModule → (m : Moment) (slot : ℕ) (r s : Running) (i j : PastInstant) → AddsInstantAt m slot r i
    → AddsInstantAt m slot s j → (r ≡ s) × (i ≡ j)
same_instant modules m slot r s i j one other =
    let entries : entry one.stamp (Step i) ≡ entry other.stamp (Step j) =
    last_same (journal_at m.before slot) _ _ (sym one.added ∙ other.added) in
    let moves : Step i ≡ Step j = ap (λ (e : SlotEntry). e.done) entries in
    (same_running modules (journal_at m.before slot) r s one.runs other.runs, cc)

-- an accepted step of the slot adds the instant of what is pending
pub record Steps (m : Moment) (slot : ℕ) : Type 0 where
  pub running : Running
  pub outputs : ℕ
  pub adds : AddsInstantAt m slot running (instant running.pending outputs)

pub accepted_steps : (m : Moment) (slot : ℕ) → EventStep m.event m.before m.reply m.after → Accepts slot IsStep m
    → Steps m slot
accepted_steps m slot step accepts = by_event m.event step accepts.0 where
  stepped : (number : ℕ) (stamp : Stamp) (does : PastMove) → RunsInstant (journal_at m.before number) does
      → journal_at m.after number ≡ journal_at m.before number ++ entry stamp does ∷ [] → Steps m number
  stepped number stamp does is added = record {
    running = is.outcome.running;
    outputs = is.outputs;
    adds = record {
      stamp = stamp;
      runs = is.outcome.runs;
      added = added ∙ ap (λ a. journal_at m.before number ++ entry stamp a ∷ []) is.is;
    };
  }

  by_moves : (version number session : ℕ) (command : SlotCommand) → command ≡ Move (Step (record {}))
      → ChangesJournal (take version m.before.entries) session command (journal_at m.before number) m.reply
      (journal_at m.after number) → Steps m number
  by_moves version number session command c (inl h) =
      stepped number _ h.does (subst (λ c. IsMoveOf c (journal_at m.before number) h.does) c h.is) h.added
  by_moves version number session command c (inr h) =
      absurd (step_adds command c (h.no_more accepts.1))

  by_event : (event : Event) → EventStep event m.before m.reply m.after → IsOn slot IsStep event → Steps m slot
  by_event (Admin seat session command) step on = absurd on
  by_event (OnSlot seat version number session command) step on =
      subst (Steps m) on.0 (by_moves version number session command on.1
      (event_moves seat version number session command m.before m.reply m.after step).here)

-- a signal stands in the inputs of an accepted step where it was offered
pub enters : OneModule → (past : List Moment) (m : Moment) (slot : ℕ) (name : List ℕ) → Comes past m
    → Accepts slot IsStep m
    → (Enters m slot name ↔ WasOffered past slot name)
enters modules past m slot name comes accepts =
    let s = accepted_steps m slot (step_of past m comes) accepts in
    let agrees = pending_as_offered modules past m comes slot s.running s.adds.runs name in (
      λ h.
          let same = same_instant modules m slot h.running s.running h.instant
          (instant s.running.pending s.outputs) h.adds s.adds in
          agrees.0 (subst (λ (r : Running). StandsIn r.interface s.running.pending name) same.0
          (subst (λ (i : PastInstant). StandsIn h.running.interface i.inputs name) same.1 h.stands)),
      λ offered. record {
        running = s.running;
        instant = instant s.running.pending s.outputs;
        adds = s.adds;
        stands = agrees.1 offered;
      },
    )
