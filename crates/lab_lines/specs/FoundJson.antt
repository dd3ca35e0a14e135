-- What is told of a search, as JSON; a set of signals as the list of their names (this project's own form).
use Rattle.std.specs.Prelude.{ℕ, ◌+◌, List, [], ◌∷◌, codes, map, if◌then◌else◌}
use Rattle.serde_json.specs.Data.{Data, number, unsigned, string, array, object, Members, member, no_members}
use Rattle.serde_json.specs.View.{items_of}
use Rattle.est_kernel.specs.Bits.{bits}
use Rattle.est_kernel.specs.declared.interface.Declaration.{Declaration}
use Rattle.est_cover.specs.declared.answered.AnsweredInputs.{AnsweredInputs}
use Rattle.est_explore.specs.declared.one_module.Answer.{Answer}
use Rattle.est_explore.specs.declared.one_module.Answer.TheVariants.{Reaction, Stuck}
use Rattle.est_explore.specs.declared.two_modules.AnswerPair.{AnswerPair}
use Rattle.est_explore.specs.declared.verdict.Verdict.{Verdict}
use Rattle.est_explore.specs.declared.verdict.Verdict.TheVariants.{Holds, Fails, TooMany}
use Rattle.est_explore.specs.declared.comparison.Comparison.{Comparison}
use Rattle.est_explore.specs.declared.comparison.Comparison.TheVariants.{Same, Differ, TooMany as TooManyPairs}

-- the names of those signals, of declarations from this place on, that are in the set
abbrev pub names_from : (place : ℕ) → List Declaration → (signals : ℕ) → List Data
names_from place [] signals = []
names_from place (d ∷ ds) signals =
    if bits signals place then string d.name ∷ names_from (place + 1) ds signals else names_from (place + 1) ds signals

-- the names of the signals, in the order of declaration
abbrev pub names_json : List Declaration → (signals : ℕ) → Data
names_json interface signals = array (items_of (names_from 0 interface signals))

-- what a module answers: what it emits, or where it is Stuck what is undecided
abbrev pub answer_members : List Declaration → Answer → Members
answer_members interface (Reaction outputs) = member (codes "outputs") (names_json interface outputs) no_members
answer_members interface (Stuck undecided) = member (codes "undecided") (names_json interface undecided) no_members

-- an instant of a module
abbrev pub instant_json : List Declaration → AnsweredInputs Answer → Data
instant_json interface a =
    object (member (codes "inputs") (names_json interface a.inputs) (answer_members interface a.answer))

-- what is answered to a claim
abbrev pub verdict_json : List Declaration → Verdict → Data
verdict_json interface Holds = object (member (codes "verdict") (string (codes "holds")) no_members)
verdict_json interface TooMany = object (member (codes "verdict") (string (codes "toomany")) no_members)
verdict_json interface (Fails word) = object (member (codes "verdict") (string (codes "fails"))
    (member (codes "word") (array (items_of (map (instant_json interface) word.items))) no_members))

-- an instant of two modules
abbrev pub instant_of_both_json : List Declaration → AnsweredInputs AnswerPair → Data
instant_of_both_json interface a =
    object (member (codes "first") (object (answer_members interface a.answer.first))
    (member (codes "inputs") (names_json interface a.inputs)
    (member (codes "second") (object (answer_members interface a.answer.second)) no_members)))

-- what is found of two modules
abbrev pub comparison_members : List Declaration → Comparison → Members
comparison_members interface Same = member (codes "verdict") (string (codes "same")) no_members
comparison_members interface TooManyPairs = member (codes "verdict") (string (codes "toomany")) no_members
comparison_members interface (Differ word) = member (codes "verdict") (string (codes "differ"))
    (member (codes "word") (array (items_of (map (instant_of_both_json interface) word.items))) no_members)

-- the same, with how many reactions and pairs of states were found
abbrev pub comparison_json : List Declaration → (reactions states : ℕ) → Comparison → Data
comparison_json interface reactions states c = object (member (codes "ok") (string (codes "same"))
    (member (codes "reactions") (number (unsigned reactions))
    (member (codes "states") (number (unsigned states)) (comparison_members interface c))))

-- what is found of a module, with how many reactions and states were found
abbrev pub exploration_json : (reactions states : ℕ) → (stuck : Data) → (verdicts : List Data) → Data
exploration_json reactions states stuck verdicts = object (member (codes "ok") (string (codes "explore"))
    (member (codes "reactions") (number (unsigned reactions))
    (member (codes "states") (number (unsigned states))
    (member (codes "stuck") stuck (member (codes "verdicts") (array (items_of verdicts)) no_members)))))
