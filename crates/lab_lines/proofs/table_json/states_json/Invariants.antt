use Rattle.std.proofs.Common.{◌≡◌, take, map}
use Rattle.serde_json.specs.View.{view}
use Rattle.lab_lines.specs.TableJson.{node_json}
use Rattle.lab_lines.proofs.table_json.states_json.Given as goal

abbrev pub invariant-loop-node : goal.invariant-loop-node
invariant-loop-node l = map view l.values.items ≡ map node_json (take l.node-index l.nodes)
