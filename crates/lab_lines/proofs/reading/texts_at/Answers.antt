use Rattle.std.proofs.Common.{◌≡◌, Some, rules}
use Rattle.std.proofs.lemmas.Result.{IfOk-weaker}
use Rattle.serde_json.specs.Data.{array}
use Rattle.serde_json.specs.Find.{get}
use Rattle.serde_json.specs.View.{items_view, view}
use Rattle.lab_lines.proofs.RequestLemmas.{texts_there}
use Rattle.lab_lines.proofs.reading.texts_at.Goals as goal

pub returns-in-Some-as_array : goal.returns-in-Some-as_array
returns-in-Some-as_array c =
    let d = view c.args.value.now in
    let items = c.in-Some-as_array.items.now.items in
    let got : get c.args.key.now d ≡ Some (array (items_view items)) = search rules in
    IfOk-weaker c.texts_of.result _ _
    (λ o h. texts_there d c.args.key.now items c.as_slice.result.now got c.as_slice.ensures.value o h)
    c.texts_of.ensures
