-- The way back from a row (this project's own form).
use Rattle.std.specs.Prelude.{◌≡◌, ℕ, ◌+◌, Option, List, ◌∷◌, ◌++◌, [], length}
use Rattle.state_search.specs.Table.{IsNodeAt}
use Rattle.state_search.specs.Words.{Path}
use Rattle.state_search.specs.declared.found.Node.{Node}
use Rattle.state_search.specs.declared.found.Row.{Row}

-- what is left of the word leads from the state at the place to that before the row, and ends with the row
pub record GoneBack {S L : Type 0} (does : S → L → Option S → Type 0) (nodes : List (Node S)) (r : Row L) (place : ℕ)
    (word : List L) : Type 0 where
  pub before : List L
  pub split : word ≡ before ++ r.label ∷ []
  pub node : Node S
  pub from : IsNodeAt nodes r.from node
  pub here : Node S
  pub at : IsNodeAt nodes place here
  pub path : Path does here.state before node.state
  pub steps : length before + here.depth ≡ node.depth
