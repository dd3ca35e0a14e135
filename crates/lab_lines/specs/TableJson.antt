-- What is told of the closed table of a module (this project's own form).
use Rattle.std.specs.Prelude.{◌≡◌, ◌<◌, ◌⊎◌, ℕ, Bool, zero, suc, List, [], ◌∷◌, ◌++◌, Option, codes, length, map}
use Rattle.std.specs.Prelude.{if◌then◌else◌}
use Rattle.std.specs.Option.{option_map_or}
use Rattle.serde_json.specs.Data.{Data, null, number, unsigned, string, array, object, member, no_members}
use Rattle.serde_json.specs.View.{items_of}
use Rattle.est_kernel.specs.Pauses.{pauses_of}
use Rattle.est_kernel.specs.declared.interface.Declaration.{Declaration}
use Rattle.est_kernel.specs.declared.limits.TheConstants.{MOST_STATEMENTS}
use Rattle.est_kernel.specs.declared.pause_set.PauseSet.{PauseSet}
use Rattle.est_kernel.specs.declared.state.State.{State}
use Rattle.est_kernel.specs.declared.state.State.TheVariants.{Fresh, Done, Paused}
use Rattle.est_explore.specs.Explored.{IsExplored}
use Rattle.est_explore.specs.Runs.{Module}
use Rattle.est_explore.specs.Tables.{IsClosedTable}
use Rattle.est_cover.specs.declared.answered.AnsweredInputs.{AnsweredInputs}
use Rattle.est_explore.specs.declared.one_module.Answer.{Answer}
use Rattle.est_explore.specs.declared.one_module.Answer.TheVariants.{Reaction, Stuck}
use Rattle.est_explore.specs.declared.one_module.Position.{Position}
use Rattle.state_search.specs.declared.found.Found.{Found}
use Rattle.state_search.specs.declared.found.Node.{Node}
use Rattle.state_search.specs.declared.found.Row.{Row}
use Rattle.lab_lines.specs.FoundJson.{names_json}

-- a number, or none
abbrev pub place_json : Option ℕ → Data
place_json place = option_map_or (λ n. number (unsigned n)) place null

-- a row with this answer: what is asked, the place of the state before it, the inputs, and what comes of them
abbrev pub answered_json : List Declaration → Row (AnsweredInputs Answer) → Answer → Data
answered_json interface r (Reaction outputs) = object (member (codes "asked") (names_json interface r.label.asked)
    (member (codes "from") (number (unsigned r.from))
    (member (codes "inputs") (names_json interface r.label.inputs)
    (member (codes "next") (place_json r.next)
    (member (codes "outputs") (names_json interface outputs) no_members)))))
answered_json interface r (Stuck undecided) = object (member (codes "asked") (names_json interface r.label.asked)
    (member (codes "from") (number (unsigned r.from))
    (member (codes "inputs") (names_json interface r.label.inputs)
    (member (codes "undecided") (names_json interface undecided) no_members))))

-- a row
abbrev pub row_json : List Declaration → Row (AnsweredInputs Answer) → Data
row_json interface r = answered_json interface r r.label.answer

-- the pauses in the set whose numbers are less than this one, in order
unfoldable pub pauses_below : PauseSet → (most : ℕ) → List ℕ
pauses_below paused zero = []
pauses_below paused (suc n) = pauses_below paused n ++ (if pauses_of paused n then n ∷ [] else [])

-- a number
abbrev pub number_json : ℕ → Data
number_json n = number (unsigned n)

-- where a module stands: at the start, at the end, or at these pauses
abbrev pub state_json : State → Data
state_json Fresh = string (codes "start")
state_json Done = string (codes "end")
state_json (Paused paused) = array (items_of (map number_json (pauses_below paused MOST_STATEMENTS)))

-- a state that was found
abbrev pub node_json : Node Position → Data
node_json n = state_json n.state.state

-- the closed table of a module: its states in the order found, and the rows
pub record IsTableTold (m : Module) (d : Data) : Type 0 where
  pub found : Found Position (AnsweredInputs Answer)
  pub closed : IsClosedTable m found
  pub said : d ≡ object (member (codes "ok") (string (codes "table"))
      (member (codes "rows") (array (items_of (map (row_json m.kernel.interface) found.rows.items)))
      (member (codes "states") (array (items_of (map node_json found.nodes.items))) no_members)))

-- more states or more reactions were found than that, and how many
pub record IsTooLarge (m : Module) (states steps : ℕ) (d : Data) : Type 0 where
  pub found : Found Position (AnsweredInputs Answer)
  pub watched : ℕ → Bool
  pub explored : IsExplored m watched found
  pub more : (states < length found.nodes.items) ⊎ (steps < length found.rows.items)
  pub said : d ≡ object (member (codes "code") (number (unsigned 83))
      (member (codes "fault") (string (codes "TooMany"))
      (member (codes "reactions") (number (unsigned (length found.rows.items)))
      (member (codes "states") (number (unsigned (length found.nodes.items))) no_members))))
