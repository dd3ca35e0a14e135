-- Which signals somebody may offer, by their names (this project's own form).
use Rattle.std.specs.Prelude.{◌≡◌, ℕ, Bool, true, false, nat_eq, List, ◌∷◌, ◌++◌, Option, Some, None}
use Rattle.std.specs.List.{All, list_any, position}
use Rattle.est_kernel.specs.Bits.{bits}
use Rattle.est_kernel.specs.Interfaces.{is_named, offerable}
use Rattle.est_kernel.specs.declared.interface.Declaration.{Declaration}
use Rattle.est_relations.specs.Offers.{IsOutputName, IsSignalName}
use Rattle.est_relations.specs.declared.refusal.PendingRefusal.{PendingRefusal}
use Rattle.est_relations.specs.declared.refusal.PendingRefusal.TheVariants.{UnknownSignal, NotInput}
use Rattle.est_text.specs.Identifiers.{is_identifier}

-- whether this is that place
abbrev pub is_place : Option ℕ → ℕ → Bool
is_place (Some p) n = nat_eq p n
is_place None n = false

-- whether the signal at the place has this name
abbrev pub has_name : List Declaration → ℕ → List ℕ → Bool
has_name interface n name = is_place (position (is_named name) interface) n

-- a signal of this name may be offered
pub record IsOfferable (interface : List Declaration) (name : List ℕ) : Type 0 where
  pub place : ℕ
  pub there : position (is_named name) interface ≡ Some place
  pub input : offerable interface place ≡ true

-- each is the name of a signal that may be offered, and these are the signals of these names and no others
pub record AreNamed (interface : List Declaration) (names : List (List ℕ)) (signals : ℕ) : Type 0 where
  pub offered : All (IsOfferable interface) names
  pub only : (n : ℕ) → bits signals n ≡ list_any (has_name interface n) names

-- why no signal of this name may be offered: it is no identifier, or no signal has it, or an output has
pub data IsNotOfferable (interface : List Declaration) (name : List ℕ) (fault : PendingRefusal) : Type 0 where
  no_identifier : is_identifier name ≡ false → fault ≡ UnknownSignal → IsNotOfferable interface name fault
  unknown : (IsSignalName interface name → ⊥) → fault ≡ UnknownSignal → IsNotOfferable interface name fault
  output : IsOutputName interface name → fault ≡ NotInput → IsNotOfferable interface name fault

-- the first of the names that is none of a signal that may be offered, and why
pub record FirstNotOfferable (interface : List Declaration) (names : List (List ℕ))
    (fault : PendingRefusal) : Type 0 where
  pub earlier : List (List ℕ)
  pub name : List ℕ
  pub later : List (List ℕ)
  pub cut : names ≡ earlier ++ name ∷ later
  pub offered : All (IsOfferable interface) earlier
  pub why : IsNotOfferable interface name fault
