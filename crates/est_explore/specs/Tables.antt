-- The closed table of a module: all its positions, and what it does at each (this project's own form).
use Rattle.std.specs.Prelude.{◌≡◌, ℕ, Option, None, Some, List}
use Rattle.std.specs.List.{Contains}
use Rattle.est_kernel.specs.Bits.{bits}
use Rattle.est_kernel.specs.Term.{Term}
use Rattle.est_meaning.specs.Reaction.{CannotReact}
use Rattle.est_meaning.specs.Rounds.{judged_signals}
use Rattle.est_meaning.specs.States.{state_term}
use Rattle.est_explore.specs.Runs.{Module, IsLawful, Instant, Goes, Runs, start}
use Rattle.est_explore.specs.Verdicts.{IsReached}
use Rattle.est_cover.specs.InputSets.{InputSet, Agrees}
use Rattle.est_cover.specs.declared.answered.AnsweredInputs.{AnsweredInputs}
use Rattle.est_explore.specs.declared.one_module.Answer.{Answer}
use Rattle.est_explore.specs.declared.one_module.Answer.TheVariants.{Reaction, Stuck}
use Rattle.est_explore.specs.declared.one_module.Position.{Position}
use Rattle.state_search.specs.Table.{IsNodeAt}
use Rattle.state_search.specs.declared.found.Found.{Found}
use Rattle.state_search.specs.declared.found.Node.{Node}
use Rattle.state_search.specs.declared.found.Row.{Row}

-- the term of the position at this place is u
pub record StandsFor (m : Module) (nodes : List (Node Position)) (place : ℕ) (u : Term) : Type 0 where
  pub node : Node Position
  pub is : IsNodeAt nodes place node
  pub term : state_term m.kernel.root node.state.state ≡ u

-- what a row says of the term before it and of inputs that it is for: the term reacts so, and the row leads to where it
-- goes on; or it is Stuck
pub data IsRowOf (m : Module) (nodes : List (Node Position)) (t : Term) (inputs : InputSet) : Answer
    → (next : Option ℕ) → Type 0 where
  reacts : (outputs place : ℕ) (u : Term) → Goes m t inputs (bits outputs) u → StandsFor m nodes place u
      → IsRowOf m nodes t inputs (Reaction outputs) (Some place)
  is_stuck : (undecided : ℕ) → CannotReact (judged_signals m.kernel.interface inputs) inputs t
      → IsRowOf m nodes t inputs (Stuck undecided) None

-- the row is for these inputs: where it was asked, its own are the same
abbrev pub IsFor : Row (AnsweredInputs Answer) → InputSet → Type 0
IsFor row inputs = Agrees (bits row.label.asked) (bits row.label.inputs) inputs

-- some row from this place is for these inputs
pub record HasRowFor (rows : List (Row (AnsweredInputs Answer))) (place : ℕ) (inputs : InputSet) : Type 0 where
  pub row : Row (AnsweredInputs Answer)
  pub listed : Contains rows row
  pub from : row.from ≡ place
  pub is : IsFor row inputs

-- the table is closed: it begins where the module does; whatever a run leads to has a place, and to each place a run
-- leads; at each place there is a row for each lawful set of inputs; each row is for some; and it is what the module
-- does with each that it is for
pub record IsClosedTable (m : Module) (f : Found Position (AnsweredInputs Answer)) : Type 0 where
  pub begins : StandsFor m f.nodes.items 0 (start m)
  pub reached : (run : List Instant) (t : Term) → Runs m (start m) run t
      → (place : ℕ) × StandsFor m f.nodes.items place t
  pub only : (place : ℕ) (n : Node Position) → IsNodeAt f.nodes.items place n → IsReached m n.state
  pub complete : (place : ℕ) (t : Term) → StandsFor m f.nodes.items place t → (inputs : InputSet) → IsLawful m inputs
      → HasRowFor f.rows.items place inputs
  pub lawful : (row : Row (AnsweredInputs Answer)) → Contains f.rows.items row → IsLawful m (bits row.label.inputs)
  pub right : (row : Row (AnsweredInputs Answer)) → Contains f.rows.items row → (t : Term)
      → StandsFor m f.nodes.items row.from t
      → (inputs : InputSet) → IsLawful m inputs → IsFor row inputs
      → IsRowOf m f.nodes.items t inputs row.label.answer row.next
