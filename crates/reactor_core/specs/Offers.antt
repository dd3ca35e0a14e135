-- Which inputs are pending, said of the entries themselves (this project's own form).
use Rattle.std.specs.Prelude.{◌≡◌, ◌↔◌, ℕ, true, List, [], ◌∷◌, ◌++◌, Some}
use Rattle.std.specs.List.{AllByRecursion}
use Rattle.est_kernel.specs.Bits.{bits}
use Rattle.est_kernel.specs.declared.interface.Declaration.{Declaration}
use Rattle.reactor_core.specs.declared.entry.Stamp.{Stamp}
use Rattle.reactor_core.specs.Meaning.{PastMove}
use Rattle.reactor_core.specs.declared.entry.Move.TheVariants.{Offer, Step}
use Rattle.reactor_core.specs.declared.entry.SlotEntry.{SlotEntry}
use Rattle.est_relations.specs.Offers.{place_of}
use Rattle.reactor_core.specs.Meaning.{entry, instant, Running, RunsAfter}

-- the move takes no offer away: it is an offer itself, and no load, discard, step or unload
abbrev pub KeepsOffers : PastMove → Type 0
KeepsOffers (Offer name) = Unit {0}
KeepsOffers _ = ⊥

-- an offer of this name was accepted, and no load, discard, step or unload since then
pub record IsOffered (journal : List SlotEntry) (name : List ℕ) : Type 0 where
  pub before : List SlotEntry
  pub stamp : Stamp
  pub later : List SlotEntry
  pub there : journal ≡ before ++ entry stamp (Offer name) ∷ later
  pub since : AllByRecursion (λ e. KeepsOffers e.done) later

-- the signal at this place of the interface is offered
pub record IsOfferedAt (journal : List SlotEntry) (interface : List Declaration) (place : ℕ) : Type 0 where
  pub name : List ℕ
  pub signal : place_of interface name ≡ Some place
  pub offered : IsOffered journal name

-- the step's entry is added, and its inputs are exactly the signals that are offered
pub record TakesOffers (before : List SlotEntry) (stamp : Stamp) (outputs : ℕ) (after : List SlotEntry) : Type 0 where
  pub running : Running
  pub runs : RunsAfter before running
  pub inputs : ℕ
  pub added : after ≡ before ++ entry stamp (Step (instant inputs outputs)) ∷ []
  pub exactly : (place : ℕ) → (bits inputs place ≡ true) ↔ IsOfferedAt before running.interface place
