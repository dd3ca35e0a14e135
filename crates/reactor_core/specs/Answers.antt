-- What a reactor answers: the reply to each command on a journal, and the journal afterwards (this project's own
-- form).
use Rattle.std.specs.Prelude.{◌≡◌, ◌⊎◌, ℕ, ◌-◌, ◌<◌, ◌≤◌, List, [], ◌∷◌, ◌++◌, length, Some, Result, Ok, Err}
use Rattle.std.specs.Prelude.{MatchResult, slice_get, bit_or, bit_and}
use Rattle.est_relations.specs.Offers.{offer_rules}
use Rattle.refusal_rules.specs.Rules.{Rule, Rules, RefuseUnless, MayRefuse, accept, ◌▸◌, ◌▸▸◌, Answers}
use Rattle.reactor_core.specs.declared.entry.Stamp.{Stamp}
use Rattle.reactor_core.specs.declared.entry.Load.{Load as LoadEntry}
use Rattle.reactor_core.specs.declared.entry.PastInstant.{PastInstant}
use Rattle.reactor_core.specs.declared.entry.Move.TheVariants.{Load, Offer, Discard, Unload}
use Rattle.reactor_core.specs.declared.entry.SlotEntry.{SlotEntry}
use Rattle.reactor_core.specs.declared.refusal.ReactorRefusal.{ReactorRefusal}
use Rattle.reactor_core.specs.declared.refusal.ReactorRefusal.TheVariants.{Module, JournalFull, Memory}
use Rattle.reactor_core.specs.declared.refusal.ModuleRefusal.TheVariants.{NoInstant}
use Rattle.reactor_core.specs.declared.journal.TheConstants.{JOURNAL_ENTRIES}
use Rattle.reactor_core.specs.declared.reactor.Shown.{Shown}
use Rattle.reactor_core.specs.Converting.{all_converted}
use Rattle.reactor_core.specs.Faults.{refusal_of_pending}
use Rattle.reactor_core.specs.Loading.{GivenModule, Gives, IsLoadFault}
use Rattle.reactor_core.specs.Meaning.{entry, instants_of, Running, RunsAfter, pending_of}

-- the journal may take another entry
abbrev pub HasRoom : List SlotEntry → Type 0
HasRoom journal = length journal < JOURNAL_ENTRIES

-- the journal has as many entries as it may have
abbrev pub IsFull : List SlotEntry → Type 0
IsFull journal = JOURNAL_ENTRIES ≤ length journal

-- why no further entry is added
abbrev pub RefusesEntry : List SlotEntry → ReactorRefusal → Type 0
RefusesEntry journal JournalFull = IsFull journal
RefusesEntry journal Memory = HasRoom journal
RefusesEntry journal (Module refusal) = ⊥

-- the rules for an entry, in the order in which they are asked: the journal has room, and memory may be refused
abbrev pub entry_rules : List SlotEntry → Rules ReactorRefusal
entry_rules journal = RefuseUnless (HasRoom journal) JournalFull ▸ MayRefuse Memory ▸ accept

-- the rules for an offer: those of the pending inputs, by its name and the relations, and then those for its entry
abbrev pub reactor_offer_rules : List SlotEntry → Running → (name : List ℕ) → Rules ReactorRefusal
reactor_offer_rules journal r name = all_converted refusal_of_pending (offer_rules (pending_of r) name) ▸▸
    entry_rules journal

-- the answer to an offer of the name, and the journal afterwards: by the rules a refusal, and the journal as it was, or
-- the entry is added
pub record ReactorOfferAnswer (before : List SlotEntry) (stamp : Stamp) (name : List ℕ)
    (answer : Result (Unit {0}) ReactorRefusal)
    (after : List SlotEntry) : Type 0 where
  pub running : Running
  pub runs : RunsAfter before running
  pub given : Answers (reactor_offer_rules before running name)
      (λ refusal. (answer ≡ Err refusal) × (after ≡ before))
      ((answer ≡ Ok (record {})) × (after ≡ before ++ entry stamp (Offer name) ∷ []))

-- the answer to a discard, and the journal afterwards: by the rules for an entry a refusal, and the journal as it was,
-- or the entry is added
abbrev pub DiscardAnswer : (before : List SlotEntry) → Stamp → Result (Unit {0}) ReactorRefusal
    → (after : List SlotEntry)
    → Type 0
DiscardAnswer before stamp answer after =
    Answers (entry_rules before)
    (λ refusal. (answer ≡ Err refusal) × (after ≡ before))
    ((answer ≡ Ok (record {})) × (after ≡ before ++ entry stamp Discard ∷ []))

-- the answer to an unload: by the rules for an entry a refusal, and the reactor as it was, or the journal with the
-- entry
abbrev pub UnloadAnswer : (before : List SlotEntry) → Stamp → Result (List SlotEntry) (ReactorRefusal × List SlotEntry)
    → Type 0
UnloadAnswer before stamp answer =
    Answers (entry_rules before)
    (λ refusal. answer ≡ Err (refusal, before))
    (answer ≡ Ok (before ++ entry stamp Unload ∷ []))

-- the text has a fault, or it gives the module of this name, which is handed on
abbrev pub gives_module : (main text : List ℕ) → Rule ReactorRefusal
gives_module main text = record { refuses = IsLoadFault main text; passes = (m : GivenModule) × Gives main text m }

-- the rules for a load of the text's module of this name: that of the text, and then those for the entry
abbrev pub load_rules : List SlotEntry → (main text : List ℕ) → Rules ReactorRefusal
load_rules journal main text = gives_module main text ▸ entry_rules journal

-- what a load entry keeps of a text: the text, and the name of its main module
abbrev pub load_of : (main text : List ℕ) → LoadEntry
load_of main text = record { main = main; text = text }

-- the load's entry is added, and the text gives a module
pub record AddsLoad (before : List SlotEntry) (stamp : Stamp) (main text : List ℕ)
    (after : List SlotEntry) : Type 0 where
  pub given : GivenModule
  pub gives : Gives main text given
  pub added : after ≡ before ++ entry stamp (Load (load_of main text)) ∷ []

-- the answer to a load of the text's module of this name: by the rules a refusal, and the journal as it was, or the
-- reactor, with the journal afterwards
abbrev pub LoadAnswer : (before : List SlotEntry) → Stamp → (main text : List ℕ)
    → Result (List SlotEntry) (ReactorRefusal × List SlotEntry) → Type 0
LoadAnswer before stamp main text answer =
    Answers (load_rules before main text)
    (λ refusal. answer ≡ Err (refusal, before))
    ((after : List SlotEntry) × (answer ≡ Ok after) × AddsLoad before stamp main text after)

-- the n-th instant since the load
pub record IsInstant (journal : List SlotEntry) (n : ℕ) (i : PastInstant) : Type 0 where
  pub counted : 0 < n
  pub there : slice_get (instants_of journal) (n - 1) ≡ Some i

-- there is no n-th instant since the load
abbrev pub HasNoInstant : List SlotEntry → ℕ → Type 0
HasNoInstant journal n = (n ≡ 0) ⊎ (length (instants_of journal) < n)

-- what is present of an instant, within the mask
abbrev pub within_mask : PastInstant → (mask : ℕ) → Shown
within_mask i mask = record { mask = mask; present = bit_and (bit_or i.inputs i.outputs) mask }

-- the n-th instant is shown within the mask
pub record ShowsInstant (journal : List SlotEntry) (n mask : ℕ) (s : Shown) : Type 0 where
  pub instant : PastInstant
  pub there : IsInstant journal n instant
  pub masked : s ≡ within_mask instant mask

-- the answer to a look at the n-th instant since the load: NoInstant exactly when there is none
abbrev pub ShownAnswer : (journal : List SlotEntry) → (n mask : ℕ) → Result Shown ReactorRefusal → Type 0
ShownAnswer journal n mask answer =
    MatchResult answer
    (ShowsInstant journal n mask)
    (λ refusal. (refusal ≡ Module NoInstant) × HasNoInstant journal n)
