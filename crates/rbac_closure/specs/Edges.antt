-- The edges between roles that are named by their places in a table, and the order that they make: a list has, for each
-- place, the set of the juniors to which an edge leads from it (RH of ANSI INCITS 359-2004, general role hierarchies,
-- on places: this project's own form).
use Rattle.std.specs.Prelude.{ℕ, ◌↔◌, List, map, slice_index, slice_set}
use Rattle.rbac_closure.specs.Sets.{Has, with_place, without_place}

-- a chain of edges, possibly empty, leads from the first to the second
pub data Chain {A : Type 0} (Edge : A → A → Type 0) : A → A → Type 0 where
  stay : {a : A} → Chain Edge a a
  step : {a b c : A} → Edge a b → Chain Edge b c → Chain Edge a c

-- an edge leads from the senior to the junior
abbrev pub IsEdge : List ℕ → ℕ → ℕ → Type 0
IsEdge edges senior junior = Has (slice_index edges senior) junior

-- a chain of edges, possibly empty, leads from the senior to the junior
abbrev pub IsAbove : List ℕ → ℕ → ℕ → Type 0
IsAbove edges senior junior = Chain (IsEdge edges) senior junior

-- the place is in the set, or below one that is
pub record IsBelowSome (edges : List ℕ) (set place : ℕ) : Type 0 where
  pub top : ℕ
  pub within : Has set top
  pub chain : IsAbove edges top place

-- a set with the roles of this one, all that lies below one of them, and nothing else
pub record AllBelow (edges : List ℕ) (set : ℕ) : Type 0 where
  pub found : ℕ
  pub is : (place : ℕ) → Has found place ↔ IsBelowSome edges set place

-- the edges with one more
abbrev pub edge_added : ℕ → ℕ → List ℕ → List ℕ
edge_added senior junior edges = slice_set edges senior (with_place (slice_index edges senior) junior)

-- the edges without one
abbrev pub edge_removed : ℕ → ℕ → List ℕ → List ℕ
edge_removed senior junior edges = slice_set edges senior (without_place (slice_index edges senior) junior)

-- the edges without those from and to the place
abbrev pub role_cleared : ℕ → List ℕ → List ℕ
role_cleared place edges = slice_set (map (λ juniors. without_place juniors place) edges) place 0
