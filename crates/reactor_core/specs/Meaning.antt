-- What a slot's journal means: which module runs, its pending inputs, its instants, and the term that is left of it
-- (this project's own form).
use Rattle.std.specs.Prelude.{◌≡◌, ℕ, Bool, true, false, List, [], ◌∷◌, ◌++◌, Option, Some, None, is_some, codes}
use Rattle.est_kernel.specs.Term.{Term}
use Rattle.est_kernel.specs.declared.interface.Declaration.{Declaration}
use Rattle.reactor_core.specs.declared.entry.Stamp.{Stamp}
use Rattle.reactor_core.specs.declared.entry.PastInstant.{PastInstant}
use Rattle.reactor_core.specs.declared.entry.Load.{Load as LoadEntry}
use Rattle.reactor_core.specs.declared.entry.Move.{Move}
use Rattle.reactor_core.specs.declared.entry.Move.TheVariants.{Load, Offer, Discard, Step, Unload}
use Rattle.reactor_core.specs.declared.entry.SlotEntry.{SlotEntry}
use Rattle.reactor_core.specs.declared.entry.SlotWord.{SlotWord}
use Rattle.reactor_core.specs.declared.entry.SlotWord.TheVariants as word
use Rattle.est_relations.specs.Offers.{PendingInputs, place_of, with_place}
use Rattle.est_relations.specs.declared.relations.Relation.{Relation}
use Rattle.reactor_core.specs.Loading.{GivenModule, Gives}
use Rattle.reactor_core.specs.Reacting.{ReactsWith}

-- a move that is asked for
abbrev pub AskedMove : Type 0
AskedMove = Move (Unit {0})

-- a move that was done: of a step its instant is known
abbrev pub PastMove : Type 0
PastMove = Move PastInstant

-- the entry of a move, given with this stamp
abbrev pub entry : Stamp → PastMove → SlotEntry
entry stamp done = record { stamp = stamp; done = done }

abbrev pub instant : (inputs outputs : ℕ) → PastInstant
instant inputs outputs = record { inputs = inputs; outputs = outputs }

-- the move that was asked for where this one was done; a step is asked for by neither inputs nor outputs
abbrev pub asked : PastMove → AskedMove
asked (Load l) = Load l
asked (Offer name) = Offer name
asked Discard = Discard
asked (Step i) = Step (record {})
asked Unload = Unload

-- the word that asks for a move
abbrev pub word_of : {I : Type 0} → Move I → SlotWord
word_of (Load l) = word.Load
word_of (Offer name) = word.Offer
word_of Discard = word.Discard
word_of (Step i) = word.Step
word_of Unload = word.Unload

-- a word, as it stands in a line
abbrev pub word_text : SlotWord → List ℕ
word_text word.Load = codes "load"
word_text word.Offer = codes "offer"
word_text word.Discard = codes "discard"
word_text word.Step = codes "step"
word_text word.Unload = codes "unload"

-- the word is that of a step
abbrev pub is_step : SlotWord → Bool
is_step word.Load = false
is_step word.Offer = false
is_step word.Discard = false
is_step word.Step = true
is_step word.Unload = false

-- the signal of an offer
abbrev pub signal_of : {I : Type 0} → Move I → Option (List ℕ)
signal_of (Load l) = None
signal_of (Offer name) = Some name
signal_of Discard = None
signal_of (Step i) = None
signal_of Unload = None

-- the instant of a step
abbrev pub instant_of : PastMove → Option PastInstant
instant_of (Load l) = None
instant_of (Offer name) = None
instant_of Discard = None
instant_of (Step i) = Some i
instant_of Unload = None

-- the value that the moves of the entries make of this one, the oldest first
abbrev pub after_all : {A : Type 0} → (A → PastMove → A) → A → List SlotEntry → A
after_all after value [] = value
after_all after value (e ∷ later) = after_all after (after value e.done) later

-- the load whose module runs after a move: an unload leaves none
abbrev pub load_after : Option LoadEntry → PastMove → Option LoadEntry
load_after before (Load l) = Some l
load_after before (Offer name) = before
load_after before Discard = before
load_after before (Step i) = before
load_after before Unload = None

-- the instants after a move: a step adds its own, a load begins anew, and where no module runs there are none
abbrev pub instants_after : List PastInstant → PastMove → List PastInstant
instants_after instants (Load l) = []
instants_after instants (Offer name) = instants
instants_after instants Discard = instants
instants_after instants (Step i) = instants ++ i ∷ []
instants_after instants Unload = []

-- the names that are offered after a move, the last one first: all other moves take them all away
abbrev pub offers_after : List (List ℕ) → PastMove → List (List ℕ)
offers_after names (Load l) = []
offers_after names (Offer name) = name ∷ names
offers_after names Discard = []
offers_after names (Step i) = []
offers_after names Unload = []

-- the load whose module runs after these entries; None where the slot is empty
abbrev pub last_load : List SlotEntry → Option LoadEntry
last_load journal = after_all load_after None journal

-- whether a module runs after these entries
abbrev pub is_loaded : List SlotEntry → Bool
is_loaded journal = is_some (last_load journal)

-- the instants since the load, the first one first
abbrev pub instants_of : List SlotEntry → List PastInstant
instants_of journal = after_all instants_after [] journal

-- the names that were offered since the last load, step, discard or unload, the last one first
abbrev pub offers_of : List SlotEntry → List (List ℕ)
offers_of journal = after_all offers_after [] journal

-- the mask with the signal at this place, if there is one
abbrev pub with_signal : ℕ → Option ℕ → ℕ
with_signal mask None = mask
with_signal mask (Some place) = with_place mask place

-- the mask of the signals of these names
abbrev pub mask_of : List Declaration → List (List ℕ) → ℕ
mask_of interface [] = 0
mask_of interface (name ∷ names) = with_signal (mask_of interface names) (place_of interface name)

-- the module of a load entry: the one that its text and the name of its main module give
abbrev pub ModuleOf : LoadEntry → GivenModule → Type 0
ModuleOf l m = Gives l.main l.text m

-- a loaded module: its interface and relations, the inputs that are pending, and the instants since the load, the first
-- one first
pub record Running : Type 0 where
  pub interface : List Declaration
  pub relations : List Relation
  pub pending : ℕ
  pub instants : List PastInstant

-- the inputs of what runs that are offered and not yet taken by a step
abbrev pub pending_of : Running → PendingInputs
pending_of r = record { interface = r.interface; relations = r.relations; inputs = r.pending }

-- this is what runs after these entries: the module of the last load, with what was offered and the instants since
-- then. There is one such at most
pub record RunsAfter (journal : List SlotEntry) (r : Running) : Type 0 where
  pub load : LoadEntry
  pub last : last_load journal ≡ Some load
  pub term : Term
  pub is : ModuleOf load (record { interface = r.interface; relations = r.relations; term = term })
  pub offered : r.pending ≡ mask_of r.interface (offers_of journal)
  pub past : r.instants ≡ instants_of journal

-- this term is left to run after these entries: a load leaves its module's whole term, an offer and a discard what was
-- left, and a step what the constructive reaction to the pending inputs leaves, which also gives the step's inputs and
-- outputs; an unload leaves none
pub data Leaves : List SlotEntry → Term → Type 0 where
  loaded : (before : List SlotEntry) → (stamp : Stamp) → (l : LoadEntry) → (m : GivenModule) → ModuleOf l m
      → Leaves (before ++ entry stamp (Load l) ∷ []) m.term
  offered : (before : List SlotEntry) → (term : Term) → Leaves before term
      → (stamp : Stamp) → (name : List ℕ) → Leaves (before ++ entry stamp (Offer name) ∷ []) term
  discarded : (before : List SlotEntry) → (term : Term) → Leaves before term
      → (stamp : Stamp) → Leaves (before ++ entry stamp Discard ∷ []) term
  stepped : (before : List SlotEntry) → (term : Term) → Leaves before term → (r : Running) → RunsAfter before r
      → (outputs : ℕ) → (next : Term) → ReactsWith r.interface term r.pending outputs next
      → (stamp : Stamp) → Leaves (before ++ entry stamp (Step (instant r.pending outputs)) ∷ []) next
