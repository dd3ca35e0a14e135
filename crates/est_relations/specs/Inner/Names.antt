-- Names that are offered (this project's own form).
use Rattle.std.specs.Prelude.{◌≡◌, ℕ, true, false, List, Some, None, Ok, Err}
use Rattle.est_kernel.specs.Bits.{bits}
use Rattle.est_kernel.specs.Interfaces.{offerable}
use Rattle.est_kernel.specs.declared.interface.Declaration.{Declaration}
use Rattle.est_relations.specs.Offers.{pending_inputs, place_of, IsOutputName, IsPendingName}
use Rattle.est_relations.specs.Offers.{OfferAnswer}
use Rattle.est_relations.specs.declared.relations.Relation.{Relation}
use Rattle.est_relations.specs.declared.refusal.PendingRefusal.{PendingRefusal}
use Rattle.est_relations.specs.declared.refusal.PendingRefusal.TheVariants.{UnknownSignal, NotInput, AlreadyOffered}

-- the name is that of the input at this place, which is not pending
pub record IsNewInput (interface : List Declaration) (mask : ℕ) (name : List ℕ) (place : ℕ) : Type 0 where
  pub there : place_of interface name ≡ Some place
  pub input : offerable interface place ≡ true
  pub new : bits mask place ≡ false

-- why the name is not that of an input that is not yet pending
abbrev pub RefusesName : List Declaration → (mask : ℕ) → List ℕ → PendingRefusal → Type 0
RefusesName interface mask name UnknownSignal = place_of interface name ≡ None
RefusesName interface mask name NotInput = IsOutputName interface name
RefusesName interface mask name AlreadyOffered = IsPendingName interface mask name
RefusesName interface mask name _ = ⊥

-- the name may be offered, and what is pending is then this mask
abbrev pub AcceptsOffer : List Declaration → List Relation → (mask : ℕ) → List ℕ → (after : ℕ) → Type 0
AcceptsOffer interface relations mask name after =
    OfferAnswer (pending_inputs interface relations mask) name (Ok (record {}))
    (pending_inputs interface relations after)

-- why the name may not be offered
abbrev pub RefusesOffer : List Declaration → List Relation → (mask : ℕ) → List ℕ → PendingRefusal → Type 0
RefusesOffer interface relations mask name e =
    OfferAnswer (pending_inputs interface relations mask) name (Err e) (pending_inputs interface relations mask)
