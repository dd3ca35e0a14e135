use Rattle.std.proofs.lemmas.List.{map-set}
use Rattle.serde_json.specs.View.{view}
use Rattle.lab_lines.proofs.statements.put_statement.Goals as goal

pub returns : goal.returns
returns c = map-set view c.args.statements.now.items c.args.at c.args.statement
