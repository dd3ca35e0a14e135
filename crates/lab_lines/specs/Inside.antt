-- What is told of an instant that is seen from inside (this project's own form).
use Rattle.std.specs.Prelude.{true, false, List, codes, map}
use Rattle.serde_json.specs.Data.{Data, null, boolean, number, unsigned, string, array, object, member, no_members}
use Rattle.serde_json.specs.View.{items_of}
use Rattle.est_kernel.specs.declared.interface.Declaration.{Declaration}
use Rattle.est_kernel.specs.declared.state.State.{State}
use Rattle.est_meaning.specs.declared.status.Status.{Status}
use Rattle.est_meaning.specs.declared.status.Status.TheVariants.{Present, Absent, Unknown}
use Rattle.lab_instant.specs.declared.seen.Incarnation.{Incarnation}
use Rattle.lab_instant.specs.declared.seen.Instant.{Instant}
use Rattle.lab_instant.specs.declared.seen.Instant.TheVariants.{Reaction, Stuck}
use Rattle.lab_instant.specs.declared.seen.Local.{Local}
use Rattle.lab_ties.specs.declared.tie.Tie.{Tie}
use Rattle.lab_lines.specs.TableJson.{state_json}
use Rattle.lab_lines.specs.Ties.{incarnation_json, ties_json}
use Rattle.lab_lines.specs.FoundJson.{names_json}

-- whether it is present; null where that is not decided
abbrev pub status_json : Status → Data
status_json Present = boolean true
status_json Absent = boolean false
status_json Unknown = null

-- a local signal, by the statement that declares it
abbrev pub local_json : Local → Data
local_json l = object (member (codes "at") (incarnation_json l.declared)
    (member (codes "present") (status_json l.status) no_members))

-- statements, and local signals
abbrev pub statements_json : List Incarnation → Data
statements_json xs = array (items_of (map incarnation_json xs))

abbrev pub locals_json : List Local → Data
locals_json xs = array (items_of (map local_json xs))

-- an instant that is stuck, by what began, the local signals, the ties, what is not decided and what went on
abbrev pub stuck_json : (began locals ties undecided went : Data) → Data
stuck_json began locals ties undecided went = object (member (codes "began") began
    (member (codes "code") (number (unsigned 50))
    (member (codes "fault") (string (codes "Stuck"))
    (member (codes "locals") locals
    (member (codes "ties") ties
    (member (codes "undecided") undecided
    (member (codes "went") went no_members)))))))

-- an instant: what began and what went on, the local signals, and what comes of it; of one that is stuck its ties
abbrev pub inside_json : List Declaration → Instant → List Tie → Data
inside_json interface (Reaction o seen) ties = object (member (codes "began") (statements_json seen.began.items)
    (member (codes "locals") (locals_json seen.locals.items)
    (member (codes "next") (state_json o.next)
    (member (codes "ok") (string (codes "instant"))
    (member (codes "outputs") (names_json interface o.outputs)
    (member (codes "went") (statements_json seen.went_on.items) no_members))))))
inside_json interface (Stuck s seen) ties =
    stuck_json (statements_json seen.began.items) (locals_json seen.locals.items) (ties_json interface ties)
    (names_json interface s.undecided) (statements_json seen.went_on.items)

-- where a module stands again
abbrev pub back_json : State → Data
back_json x = object (member (codes "next") (state_json x) (member (codes "ok") (string (codes "back")) no_members))
