-- One relation that does not hold (this project's own form).
use Rattle.std.specs.Prelude.{◌≡◌, ℕ, false, List, Some}
use Rattle.std.specs.List.{find}
use Rattle.est_kernel.specs.Bits.{bits}
use Rattle.est_kernel.specs.declared.statement.InterfaceSignal.{InterfaceSignal}
use Rattle.est_relations.specs.Keeping.{keeps, keeps_exclusion}
use Rattle.est_relations.specs.Offers.{with_place}
use Rattle.est_relations.specs.declared.relations.Relation.{Relation}
use Rattle.est_relations.specs.declared.relations.Relation.TheVariants.{Exclusion, Implication}

-- with the signal at this place the exclusion would not hold, and this is its first pending member
pub record Excludes (relation : Relation) (mask place member : ℕ) : Type 0 where
  pub broken : keeps_exclusion (bits (with_place mask place)) relation ≡ false
  pub members : List ℕ
  pub is : relation ≡ Exclusion members
  pub pending : find (bits mask) members ≡ Some member

-- the implication does not hold, and this signal is missing
pub record Lacks (relation : Relation) (mask : ℕ) (missing : InterfaceSignal) : Type 0 where
  pub broken : keeps (bits mask) relation ≡ false
  pub condition : InterfaceSignal
  pub is : relation ≡ Implication condition missing
