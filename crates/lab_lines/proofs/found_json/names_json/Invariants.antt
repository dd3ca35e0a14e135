use Rattle.std.proofs.Common.{◌≡◌, ◌++◌, drop, map}
use Rattle.serde_json.specs.View.{view}
use Rattle.lab_lines.specs.FoundJson.{names_from}
use Rattle.lab_lines.proofs.found_json.names_json.Given as goal

abbrev pub invariant-loop-place : goal.invariant-loop-place
invariant-loop-place l = map view l.names.items ++ names_from l.place (drop l.place l.declarations) l.signals
    ≡ names_from 0 l.declarations l.signals
