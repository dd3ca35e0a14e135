-- What is told of the statements that are tied to signals that are not decided (this project's own form).
use Rattle.std.specs.Prelude.{ℕ, List, Option, Some, None, codes, if◌then◌else◌, map, nat_eq, slice_get}
use Rattle.serde_json.specs.Data.{Data, null, number, unsigned, string, array, object, member, no_members}
use Rattle.serde_json.specs.Data.{item, no_items}
use Rattle.serde_json.specs.View.{items_of}
use Rattle.est_kernel.specs.declared.interface.Declaration.{Declaration}
use Rattle.lab_instant.specs.declared.seen.Incarnation.{Incarnation}
use Rattle.lab_ties.specs.declared.tie.OpenSignal.{OpenSignal}
use Rattle.lab_ties.specs.declared.tie.OpenSignal.TheVariants.{Interface, Local}
use Rattle.lab_ties.specs.declared.tie.Tie.{Tie}
use Rattle.lab_ties.specs.declared.tie.TieKind.{TieKind}
use Rattle.lab_ties.specs.declared.tie.TieKind.TheVariants.{Waits, MayEmit}

-- a statement in an incarnation that a restart begins: its number and that of the incarnation
abbrev pub restarted_json : Incarnation → Data
restarted_json a =
    array (item (number (unsigned a.statement)) (item (number (unsigned a.number)) no_items))

-- a statement in one of its incarnations: in incarnation 0 its number alone
abbrev pub incarnation_json : Incarnation → Data
incarnation_json a = if nat_eq a.number 0 then number (unsigned a.statement) else restarted_json a

-- whether a statement waits for a signal or may emit it
abbrev pub kind_text : TieKind → List ℕ
kind_text Waits = codes "waits"
kind_text MayEmit = codes "emits"

-- the name of a signal of the interface
abbrev pub name_json : Option Declaration → Data
name_json None = null
name_json (Some d) = string d.name

-- a signal: the name of one of the interface, or the statement that declares a local one
abbrev pub signal_json : List Declaration → OpenSignal → Data
signal_json interface (Interface place) = name_json (slice_get interface place)
signal_json interface (Local declared) = incarnation_json declared

-- a statement that is tied to a signal
abbrev pub tie_json : List Declaration → Tie → Data
tie_json interface t = object (member (codes "at") (incarnation_json t.at)
    (member (codes "kind") (string (kind_text t.kind))
    (member (codes "signal") (signal_json interface t.signal) no_members)))

-- all that are
abbrev pub ties_json : List Declaration → List Tie → Data
ties_json interface ties = array (items_of (map (tie_json interface) ties))
