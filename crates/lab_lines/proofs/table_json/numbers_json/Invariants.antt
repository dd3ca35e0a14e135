use Rattle.std.proofs.Common.{◌≡◌, take, map}
use Rattle.serde_json.specs.View.{view}
use Rattle.lab_lines.specs.TableJson.{number_json}
use Rattle.lab_lines.proofs.table_json.numbers_json.Given as goal

abbrev pub invariant-loop-number : goal.invariant-loop-number
invariant-loop-number l = map view l.values.items ≡ map number_json (take l.number-index l.numbers)
