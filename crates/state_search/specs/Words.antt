-- Ways from one state to another (this project's own form).
use Rattle.std.specs.Prelude.{◌≡◌, Option, Some, List, [], ◌∷◌, ◌++◌, length}
use Rattle.state_search.specs.Table.{IsNodeAt}
use Rattle.state_search.specs.declared.found.Node.{Node}
use Rattle.state_search.specs.declared.found.Row.{Row}

-- steps of these labels lead from x to y
abbrev pub Path : {S L : Type 0} → (does : S → L → Option S → Type 0) → S → List L → S → Type 0
Path does x [] y = x ≡ y
Path {S} does x (l ∷ ls) y = (z : S) × (does x l (Some z)) × (Path does z ls y)

-- the word leads from the start to the state before the row, by as many steps as its node has, and ends with the row
pub record LedTo {S L : Type 0} (does : S → L → Option S → Type 0) (start : S) (nodes : List (Node S)) (r : Row L)
    (word : List L) : Type 0 where
  pub before : List L
  pub split : word ≡ before ++ r.label ∷ []
  pub node : Node S
  pub from : IsNodeAt nodes r.from node
  pub path : Path does start before node.state
  pub shortest : length before ≡ node.depth
