-- Which separation set is violated first, as it is computed (this project's own form).
use Rattle.std.specs.Prelude.{ℕ, Bool, List, Option, Some, None, if◌then◌else◌, nat_le, nat_lt, length, fold}
use Rattle.rbac_closure.specs.Sets.{common, places_of}
use Rattle.rbac_policy.specs.declared.rows.Session.{Session}
use Rattle.rbac_policy.specs.declared.rows.DsdSet.{DsdSet}
use Rattle.rbac_policy.specs.declared.separation.Violation.{Violation}
use Rattle.rbac_policy.specs.Order.{below}

-- at least `count` of the set's roles are active in the session, or lie below one that is
abbrev pub holds_many : List ℕ → DsdSet → Session → Bool
holds_many juniors set session = nat_le set.count (length (places_of (common (below juniors session.active) set.roles)))

-- the session in the row, if it holds too many roles of the set
abbrev pub violator : List ℕ → DsdSet → Option Session → Option ℕ
violator juniors set None = None
violator juniors set (Some session) = if holds_many juniors set session then Some session.number else None

-- the lesser of the two by this key, if there are any: the first where they are equal
abbrev pub lesser : {R : Type 0} → (R → ℕ) → Option R → Option R → Option R
lesser key known None = known
lesser key None (Some found) = Some found
lesser key (Some known) (Some found) = if nat_lt (key found) (key known) then Some found else Some known

-- the least session that holds too many roles of the set
unfoldable pub least_violator : List ℕ → List (Option Session) → DsdSet → Option ℕ
least_violator juniors sessions set = fold (λ least row. lesser (λ n. n) least (violator juniors set row)) None
    sessions

-- the set, which this session violates, if one does
abbrev pub violated_by : DsdSet → Option ℕ → Option Violation
violated_by set None = None
violated_by set (Some session) = Some (record { place = set.place; set = set.name; session = session })

-- the set in the row, with the least session that violates it, if one does
abbrev pub violation_of : List ℕ → List (Option Session) → Option DsdSet → Option Violation
violation_of juniors sessions None = None
violation_of juniors sessions (Some set) = violated_by set (least_violator juniors sessions set)

-- the place of the violated set
abbrev pub place_of_set : Violation → ℕ
place_of_set v = v.place

-- the first set in order of creation that is violated, with the least session that violates it
unfoldable pub first_violation : List ℕ → List (Option Session) → List (Option DsdSet) → Option Violation
first_violation juniors sessions sets =
    fold (λ first row. lesser place_of_set first (violation_of juniors sessions row)) None sets
