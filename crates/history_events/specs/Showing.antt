-- What a look shows (this project's own form).
use Rattle.std.specs.Prelude.{◌≡◌, ◌↔◌, ℕ, ◌-◌, Bool, List, [], ◌∷◌, ◌++◌, take}
use Rattle.est_kernel.specs.Term.{Term}
use Rattle.est_kernel.specs.declared.interface.Declaration.{Declaration}
use Rattle.reactor_core.specs.declared.entry.PastInstant.{PastInstant}
use Rattle.reactor_core.specs.declared.entry.SlotWord.TheVariants as word
use Rattle.reactor_core.specs.Meaning.{instant, Running, RunsAfter}
use Rattle.reactor_core.specs.Reacting.{ReactsWith}
use Rattle.access_core.specs.declared.reply.Reply.TheVariants.{Added, Look as Shown}
use Rattle.access_core.specs.Shown.{Observes, shown_of}
use Rattle.history_events.specs.Entering.{Accepts, IsStep, IsLoad, AddsInstantAt, StandsIn, WasOffered}
use Rattle.history_events.specs.Runs.{Moment, journal_at}
use Rattle.history_events.specs.Since.{Since}

-- from this term on, instant after instant, the module reacts to these inputs with these outputs, and the last term is
-- left
pub data Reactions (interface : List Declaration) (start : Term) : List PastInstant → Term → Type 0 where
  starts : Reactions interface start [] start
  goes_on : (earlier : List PastInstant) → (term : Term) → Reactions interface start earlier term
      → (inputs outputs : ℕ) → (next : Term) → ReactsWith interface term inputs outputs next
      → Reactions interface start (earlier ++ instant inputs outputs ∷ []) next

-- at this moment a step of the slot, where a module of this interface runs, is answered with this number of its
-- instant, which has these inputs and outputs
pub record WasStep (slot n : ℕ) (interface : List Declaration) (i : PastInstant) (m : Moment) : Type 0 where
  pub accepted : Accepts slot IsStep m
  pub place : ℕ
  pub version : ℕ
  pub numbered : m.reply ≡ Added (record { word = word.Step; place = place; version = version; instants = n })
  pub running : Running
  pub declares : running.interface ≡ interface
  pub adds : AddsInstantAt m slot running i

-- the reply shows the instant of the step that was answered with this number since the slot's last load: exactly the
-- signals that the session may observe at this version, each with whether it stands in the instant's inputs, which are
-- those that were offered before that step, or in the outputs of the constructive reaction to them, of the term that
-- the reactions before it have left of the module
pub record ShowsReaction (past : List Moment) (m : Moment) (version slot session n : ℕ) : Type 0 where
  pub running : Running
  pub runs : RunsAfter (journal_at m.before slot) running
  pub instant : PastInstant
  pub stepped : Since (WasStep slot n running.interface instant) (Accepts slot IsLoad) past
  pub inputs : (name : List ℕ) → StandsIn running.interface instant.inputs name
      ↔ WasOffered (take stepped.at past) slot name
  pub term : Term
  pub reactions : Reactions running.interface runs.term (take (n - 1) running.instants) term
  pub next : Term
  pub reacts : ReactsWith running.interface term instant.inputs instant.outputs next
  pub sees : ℕ → Bool
  pub observes : Observes (take version m.before.entries) session slot running.interface sees
  pub shows : m.reply ≡ Shown n (shown_of running.interface sees instant) version
