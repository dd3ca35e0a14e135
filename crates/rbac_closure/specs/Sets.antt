-- Sets of places of roles, each as the number that has a bit for each of its places (this project's own form).
use Rattle.std.specs.Prelude.{◌≡◌, ℕ, zero, suc, ◌<◌, ◌≤◌, ◌^◌, ◌==◌, List, [], ◌∷◌, if◌then◌else◌}
use Rattle.std.specs.Int.{bit_at}
use Rattle.rbac_closure.specs.declared.role_sets.TheConstants.{ROLES}
use Rattle.std.specs.Int.RustNames.{bit_and, bit_or, bit_xor}

-- the place is in the set
abbrev pub Has : ℕ → ℕ → Type 0
Has set place = bit_at set place ≡ 1

-- a place is in both sets
abbrev pub Meets : ℕ → ℕ → Type 0
Meets a b = (place : ℕ) × Has a place × Has b place

-- the place is the first of the set's from this one on
pub record IsFirstFrom (set start place : ℕ) : Type 0 where
  pub within : Has set place
  pub after : start ≤ place
  pub first : (other : ℕ) → start ≤ other → other < place → ¬ (Has set other)

-- the places of either set
abbrev pub either : ℕ → ℕ → ℕ
either a b = bit_or a b

-- the places of both sets
abbrev pub common : ℕ → ℕ → ℕ
common a b = bit_and a b

-- the set with the place
abbrev pub with_place : ℕ → ℕ → ℕ
with_place set place = bit_or set (2 ^ place)

-- the set without the place: it is put in, and turned
abbrev pub without_place : ℕ → ℕ → ℕ
without_place set place = bit_xor (bit_or set (2 ^ place)) (2 ^ place)

-- the places of the set that stand before this one, the last of them first
unfoldable pub places_before : ℕ → ℕ → List ℕ
places_before zero set = []
places_before (suc place) set = if bit_at set place == 1 then place
    ∷ places_before place set else places_before place set

-- the places of the set, the last of them first
abbrev pub places_of : ℕ → List ℕ
places_of set = places_before ROLES set
