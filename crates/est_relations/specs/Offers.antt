-- What is pending, and the rules by which an offer and the beginning of an instant are answered (this project's own
-- form).
use Rattle.std.specs.Prelude.{◌≡◌, ℕ, ◌+◌, ◌^◌, true, false, not, List, position, Option, Some, Result, Ok, Err, bit_or}
use Rattle.std.specs.Prelude.{slice_get}
use Rattle.std.specs.List.{find, list_all}
use Rattle.refusal_rules.specs.Rules.{Rules, RefuseIf, RefuseUnless, RefuseNaming, accept, ◌▸◌, Answers}
use Rattle.est_kernel.specs.Bits.{bits}
use Rattle.est_kernel.specs.Interfaces.{offerable, is_named}
use Rattle.est_kernel.specs.declared.interface.Declaration.{Declaration}
use Rattle.est_kernel.specs.declared.statement.InterfaceSignal.{InterfaceSignal}
use Rattle.est_relations.specs.Keeping.{keeps, keeps_exclusion, AreLawful, AreOverInputs}
use Rattle.est_relations.specs.declared.refusal.PendingRefusal.{PendingRefusal}
use Rattle.est_relations.specs.declared.refusal.PendingRefusal.TheVariants.{UnknownSignal, NotInput, AlreadyOffered}
use Rattle.est_relations.specs.declared.refusal.PendingRefusal.TheVariants.{Excluded, Implied}
use Rattle.est_relations.specs.declared.relations.Relation.{Relation}
use Rattle.est_relations.specs.declared.relations.Relation.TheVariants.{Exclusion, Implication}

-- the pending inputs of a module, as a mask over its interface in the order of declaration, with its interface and
-- relations
pub record PendingInputs : Type 0 where
  pub interface : List Declaration
  pub relations : List Relation
  pub inputs : ℕ

-- these inputs are pending
abbrev pub pending_inputs : List Declaration → List Relation → (inputs : ℕ) → PendingInputs
pending_inputs interface relations inputs = record { interface = interface; relations = relations; inputs = inputs }

-- the place in the interface of the signal of this name
abbrev pub place_of : List Declaration → List ℕ → Option ℕ
place_of interface name = position (is_named name) interface

-- the mask with the signal at this place
abbrev pub with_place : (mask place : ℕ) → ℕ
with_place mask place = bit_or mask (2 ^ place)

-- what is pending may be offered and keeps each exclusion, and the relations are between signals that may be offered
pub record KeepsExclusions (interface : List Declaration) (relations : List Relation) (mask : ℕ) : Type 0 where
  pub over_inputs : AreOverInputs interface relations
  pub inputs : (n : ℕ) → bits mask n ≡ true → offerable interface n ≡ true
  pub kept : list_all (keeps_exclusion (bits mask)) relations ≡ true

-- a signal of the interface has this name
pub record IsSignalName (interface : List Declaration) (name : List ℕ) : Type 0 where
  pub place : ℕ
  pub there : place_of interface name ≡ Some place

-- the name is that of a signal that is an output alone, so may not be offered
pub record IsOutputName (interface : List Declaration) (name : List ℕ) : Type 0 where
  pub place : ℕ
  pub there : place_of interface name ≡ Some place
  pub output : offerable interface place ≡ false

-- the name is that of a signal that is pending
pub record IsPendingName (interface : List Declaration) (mask : ℕ) (name : List ℕ) : Type 0 where
  pub place : ℕ
  pub there : place_of interface name ≡ Some place
  pub pending : bits mask place ≡ true

-- the signal at this place has this name
pub record IsNameAt (interface : List Declaration) (place : ℕ) (name : List ℕ) : Type 0 where
  pub declaration : Declaration
  pub there : slice_get interface place ≡ Some declaration
  pub named : name ≡ declaration.name

-- this relation, counted from 1, is the first exclusion that would not hold with the signal at this place; this is its
-- first pending member, in the order in which they are written
pub record IsFirstBroken (relations : List Relation) (mask place number member : ℕ) : Type 0 where
  pub index : ℕ
  pub numbered : number ≡ index + 1
  pub first : position (λ r. not (keeps_exclusion (bits (with_place mask place)) r)) relations ≡ Some index
  pub members : List ℕ
  pub is : slice_get relations index ≡ Some (Exclusion members)
  pub pending : find (bits mask) members ≡ Some member

-- an offer of the name would break this relation first; its first pending member has this name
pub record IsFirstExcluded (p : PendingInputs) (name : List ℕ) (number : ℕ) (signal : List ℕ) : Type 0 where
  pub place : ℕ
  pub there : place_of p.interface name ≡ Some place
  pub member : ℕ
  pub broken : IsFirstBroken p.relations p.inputs place number member
  pub named : IsNameAt p.interface member signal

-- this relation, counted from 1, is the first that does not hold, and it is an implication of this signal
pub record IsFirstLacking (relations : List Relation) (mask number implied : ℕ) : Type 0 where
  pub index : ℕ
  pub numbered : number ≡ index + 1
  pub first : position (λ r. not (keeps (bits mask) r)) relations ≡ Some index
  pub condition : InterfaceSignal
  pub missing : InterfaceSignal
  pub is : slice_get relations index ≡ Some (Implication condition missing)
  pub place : implied ≡ missing.index

-- by the relation of this number, the pending inputs lack the signal of this name
pub record IsFirstImplied (p : PendingInputs) (number : ℕ) (missing : List ℕ) : Type 0 where
  pub implied : ℕ
  pub lacking : IsFirstLacking p.relations p.inputs number implied
  pub named : IsNameAt p.interface implied missing

-- the rules of refusal of an offer, in their order
abbrev pub offer_rules : PendingInputs → List ℕ → Rules PendingRefusal
offer_rules p name =
    RefuseUnless (IsSignalName p.interface name) UnknownSignal
    ▸ RefuseIf NotInput (IsOutputName p.interface name)
    ▸ RefuseIf AlreadyOffered (IsPendingName p.interface p.inputs name)
    ▸ RefuseNaming {Thing = ℕ × List ℕ} (λ e. Excluded e.0 e.1) (λ e. IsFirstExcluded p name e.0 e.1)
    ▸ accept

-- the rules of refusal of an instant
abbrev pub ready_rules : PendingInputs → Rules PendingRefusal
ready_rules p = RefuseNaming {Thing = ℕ × List ℕ} (λ e. Implied e.0 e.1) (λ e. IsFirstImplied p e.0 e.1) ▸ accept

-- the signal of the name becomes pending too
pub record Adds (before : PendingInputs) (name : List ℕ) (after : PendingInputs) : Type 0 where
  pub place : ℕ
  pub there : place_of before.interface name ≡ Some place
  pub added : after
      ≡ record { interface = before.interface; relations = before.relations; inputs = with_place before.inputs place }

-- the answer to an offer of the name, and what is pending afterwards: a refusal changes nothing
abbrev pub OfferAnswer : PendingInputs → List ℕ → Result (Unit {0}) PendingRefusal → PendingInputs → Type 0
OfferAnswer before name answer after =
    Answers (offer_rules before name)
    (λ refusal. (answer ≡ Err refusal) × (after ≡ before))
    ((answer ≡ Ok (record {})) × Adds before name after)

-- the answer to whether an instant may take the pending inputs: it may exactly when they are lawful
abbrev pub ReadyAnswer : PendingInputs → Result (Unit {0}) PendingRefusal → Type 0
ReadyAnswer p answer =
    Answers (ready_rules p)
    (λ refusal. answer ≡ Err refusal)
    ((answer ≡ Ok (record {})) × AreLawful p.relations (bits p.inputs))
