-- Where a search stands while it goes on (this project's own form).
use Rattle.std.specs.Prelude.{◌≡◌, ℕ, ◌<◌, ◌≤◌, ◌+◌, Option, None, Some, List, [], ◌∷◌, ◌++◌, length}
use Rattle.std.specs.List.{All, Contains}
use Rattle.state_search.specs.Inner.Places.{Puts}
use Rattle.state_search.specs.Table.{IsNodeAt, HasRow, IsFound}
use Rattle.state_search.specs.declared.found.Node.{Node}
use Rattle.state_search.specs.declared.found.Row.{Row}
use Rattle.state_search.specs.declared.transition_system.Step.{Step}

-- a step from a node of this place and depth comes as one more row, and where it leads to a new state, as one more node
pub data Adds {S L : Type 0} (nodes : List (Node S)) (rows : List (Row L)) (from depth : ℕ) (s : Step S L)
    (more_nodes : List (Node S)) (more_rows : List (Row L)) : Type 0 where
  stops : s.next ≡ None → more_nodes ≡ nodes
      → more_rows ≡ rows ++ record { from = from; label = s.label; next = None } ∷ []
      → Adds nodes rows from depth s more_nodes more_rows
  goes : (y : S) (p : ℕ) → s.next ≡ Some y
      → Puts nodes (record { state = y; by = length rows; depth = depth + 1 }) p more_nodes
      → more_rows ≡ rows ++ record { from = from; label = s.label; next = Some p } ∷ []
      → Adds nodes rows from depth s more_nodes more_rows

-- some of the steps has this label
pub record HasLabel {S L : Type 0} (steps : List (Step S L)) (l : L) : Type 0 where
  pub step : Step S L
  pub listed : Contains steps step
  pub label : step.label ≡ l

module _ {S L : Type 0} (is_state : S → Type 0) (does : S → L → Option S → Type 0)
    (covers : S → List (Step S L) → Type 0)
    (apart : L → L → Type 0) where
  -- between two states
  pub record IsSearching (nodes : List (Node S)) (rows : List (Row L)) (at : ℕ) : Type 0 where
    pub found : IsFound is_state does covers apart nodes rows at
    pub froms : All (λ r. r.from < at) rows
    pub near : (n : Node S) → IsNodeAt nodes at n → All (λ m. m.depth ≤ n.depth + 1) nodes

  -- at the node at the place, after these of its steps
  pub record IsExpanding (nodes : List (Node S)) (rows : List (Row L)) (at : ℕ) (n : Node S) (done : List (Step S L))
      : Type 0 where
    pub found : IsFound is_state does covers apart nodes rows at
    pub here : IsNodeAt nodes at n
    pub near : All (λ m. m.depth ≤ n.depth + 1) nodes
    pub froms : All (λ r. r.from ≤ at) rows
    pub listed : All (HasRow nodes rows at n) done
    pub mine : All (λ r. r.from ≡ at → HasLabel done r.label) rows
