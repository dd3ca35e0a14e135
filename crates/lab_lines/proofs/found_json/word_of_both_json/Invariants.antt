use Rattle.std.proofs.Common.{◌≡◌, take, map}
use Rattle.serde_json.specs.View.{view}
use Rattle.lab_lines.specs.FoundJson.{instant_of_both_json}
use Rattle.lab_lines.proofs.found_json.word_of_both_json.Given as goal

abbrev pub invariant-loop-asked : goal.invariant-loop-asked
invariant-loop-asked l = map view l.instants.items ≡ map (instant_of_both_json l.interface) (take l.asked-index l.word)
