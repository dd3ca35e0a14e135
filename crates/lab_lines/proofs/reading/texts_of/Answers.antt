use Rattle.std.proofs.Common.{◌≡◌, None, rules}
use Rattle.serde_json.specs.Find.{as_str}
use Rattle.serde_json.specs.View.{view}
use Rattle.lab_lines.proofs.RequestLemmas.{no_texts}
use Rattle.lab_lines.proofs.reading.texts_of.Goals as goal

pub returns-in_default : goal.returns-in_default
returns-in_default c =
    let none : as_str (view c.item-item.result) ≡ None = search rules in
    no_texts c.args.items.now c.loop-item.item-index c.item-item.result c.loop-item-test.true c.item-item.is none
