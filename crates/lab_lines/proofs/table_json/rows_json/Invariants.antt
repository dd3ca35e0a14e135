use Rattle.std.proofs.Common.{◌≡◌, take, map}
use Rattle.serde_json.specs.View.{view}
use Rattle.lab_lines.specs.TableJson.{row_json}
use Rattle.lab_lines.proofs.table_json.rows_json.Given as goal

abbrev pub invariant-loop-each : goal.invariant-loop-each
invariant-loop-each l = map view l.values.items ≡ map (row_json l.interface) (take l.each-index l.rows)
