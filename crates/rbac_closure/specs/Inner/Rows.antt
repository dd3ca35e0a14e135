-- What the rows of `RoleHierarchy` keep (this project's own form).
use Rattle.std.specs.Prelude.{◌≡◌, ℕ, ◌<◌, ◌↔◌, ◌⊎◌, List, length, slice_index}
use Rattle.rbac_closure.specs.declared.role_sets.TheConstants.{ROLES}
use Rattle.rbac_closure.specs.Sets.{Has}
use Rattle.rbac_closure.specs.Edges.{IsEdge, IsAbove}

-- edges lead to places of the table
abbrev pub IsInTable : List ℕ → Type 0
IsInTable edges = (senior junior : ℕ) → IsEdge edges senior junior → junior < ROLES

-- each place's row has what lies below it
abbrev pub HasBelow : List ℕ → List ℕ → Type 0
HasBelow edges below = (role : ℕ) → role < ROLES → (place : ℕ)
    → Has (slice_index below role) place ↔ IsAbove edges role place

-- each place's row has what lies above it
abbrev pub HasAbove : List ℕ → List ℕ → Type 0
HasAbove edges above = (role : ℕ) → role < ROLES → (place : ℕ)
    → Has (slice_index above role) place ↔ IsAbove edges place role

-- there is a row for each place, edges lead to places of the table, and the rows have what lies below and above each
pub record IsClosed (edges lower upper : List ℕ) : Type 0 where
  pub full : length edges ≡ ROLES
  pub in_table : IsInTable edges
  pub below : HasBelow edges lower
  pub above : HasAbove edges upper

-- the new edges are the old ones, and those from the senior to the juniors that stand before `many`
pub record HasJuniors (old new : List ℕ) (senior juniors many : ℕ) : Type 0 where
  pub edges : (a b : ℕ) → IsEdge new a b ↔ (IsEdge old a b ⊎ ((a ≡ senior) × Has juniors b × (b < many)))
  pub same : length new ≡ length old
