-- How signals enter an instant (this project's own form).
use Rattle.std.specs.Prelude.{◌≡◌, ◌⊎◌, ℕ, true, List, [], ◌∷◌, ◌++◌, Some}
use Rattle.est_kernel.specs.Bits.{bits}
use Rattle.est_kernel.specs.declared.interface.Declaration.{Declaration}
use Rattle.reactor_core.specs.declared.entry.Stamp.{Stamp}
use Rattle.reactor_core.specs.declared.entry.PastInstant.{PastInstant}
use Rattle.reactor_core.specs.declared.entry.Load.{Load as LoadEntry}
use Rattle.reactor_core.specs.declared.entry.Move.TheVariants.{Load, Offer, Discard, Step}
use Rattle.est_relations.specs.Offers.{place_of}
use Rattle.reactor_core.specs.Meaning.{entry, Running, RunsAfter}
use Rattle.access_core.specs.declared.command.SlotCommand.{SlotCommand}
use Rattle.access_core.specs.declared.command.SlotCommand.TheVariants.{Move}
use Rattle.access_core.specs.Needs.{IsAccepted}
use Rattle.history_events.specs.declared.event.Event.{Event}
use Rattle.history_events.specs.declared.event.Event.TheVariants.{Admin, OnSlot}
use Rattle.history_events.specs.Runs.{Moment, journal_at}
use Rattle.history_events.specs.Since.{Since}

-- the event is a command on this slot for which P holds
abbrev pub IsOn : (slot : ℕ) → (SlotCommand → Type 0) → Event → Type 0
IsOn slot P (Admin seat session command) = ⊥
IsOn slot P (OnSlot seat version number session command) = (number ≡ slot) × P command

-- the command is an offer of the signal of this name
abbrev pub IsOfferOf : List ℕ → SlotCommand → Type 0
IsOfferOf name command = command ≡ Move (Offer name)

-- the command is a step
abbrev pub IsStep : SlotCommand → Type 0
IsStep command = command ≡ Move (Step (record {}))

-- the command is a discard
abbrev pub IsDiscard : SlotCommand → Type 0
IsDiscard command = command ≡ Move Discard

-- the command is a load
abbrev pub IsLoad : SlotCommand → Type 0
IsLoad command = (load : LoadEntry) × (command ≡ Move (Load load))

-- nothing is pending after the command, where it is accepted. An unload is left out: before the slot's next offer or
-- step is accepted there is a load
abbrev pub EmptiesPending : SlotCommand → Type 0
EmptiesPending command = IsLoad command ⊎ IsStep command ⊎ IsDiscard command

-- at this moment a command on this slot for which P holds is accepted
abbrev pub Accepts : (slot : ℕ) → (SlotCommand → Type 0) → Moment → Type 0
Accepts slot P m = IsOn slot P m.event × IsAccepted m.reply

-- an offer of the signal was accepted in the slot, and no load, no step and no discard of the slot was accepted since
abbrev pub WasOffered : (past : List Moment) → (slot : ℕ) → (name : List ℕ) → Type 0
WasOffered past slot name = Since (Accepts slot (IsOfferOf name)) (Accepts slot EmptiesPending) past

-- the signal of this name stands in a set of signals of the interface
pub record StandsIn (interface : List Declaration) (signals : ℕ) (name : List ℕ) : Type 0 where
  pub place : ℕ
  pub there : place_of interface name ≡ Some place
  pub set : bits signals place ≡ true

-- at this moment an instant is added to the slot
pub record AddsInstantAt (m : Moment) (slot : ℕ) (running : Running) (i : PastInstant) : Type 0 where
  pub stamp : Stamp
  pub runs : RunsAfter (journal_at m.before slot) running
  pub added : journal_at m.after slot ≡ journal_at m.before slot ++ entry stamp (Step i) ∷ []

-- at this moment an instant of the slot is run, and the signal of this name stands in its inputs
pub record Enters (m : Moment) (slot : ℕ) (name : List ℕ) : Type 0 where
  pub running : Running
  pub instant : PastInstant
  pub adds : AddsInstantAt m slot running instant
  pub stands : StandsIn running.interface instant.inputs name
