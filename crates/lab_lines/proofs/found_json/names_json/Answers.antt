use Rattle.std.proofs.Common.{◌∙◌, ◌++◌, [], List, ◌+◌, drop, map, sym, ap}
use Rattle.serde_json.specs.Data.{Data, array, string}
use Rattle.serde_json.specs.declared.value.Value.{Value}
use Rattle.est_kernel.specs.declared.interface.Kind.TheVariants.{Input}
use Rattle.serde_json.specs.View.{items_of, view}
use Rattle.lab_lines.specs.FoundJson.{names_from}
use Rattle.lab_lines.proofs.NameLemmas.{names_there, names_later, one_more, none_left}
use Rattle.lab_lines.proofs.found_json.names_json.Goals.{then-has+in_ok-name+in_ok-push, else-has}
use Rattle.lab_lines.proofs.found_json.names_json.Goals as goal

pub loop-place-preserved : goal.loop-place-preserved
loop-place-preserved c = elim c.if-has.branch [
  | then-has+in_ok-name+in_ok-push w ↦
      let ds = c.declarations-declarations.result.now in
      let d = w.index-declarations-place.result in
      let left = names_there ds c.loop-place.place d c.args.signals c.loop-place-test.true
      (sym c.has.ensures ∙ w.if-has.true) in
      one_more c.loop-place.names.items c.if-has.names.items w.in_ok-name.name _ _ _
      (ap (λ v. v.items) w.names-is ∙ w.in_ok-push.ensures.items)
      (w.in_ok-name.ensures ∙ ap string w.as_str.ensures.same)
      left ∙ c.loop-place.invariant
  | else-has w ↦
      let ds = c.declarations-declarations.result.now in
      let later = names_later ds c.loop-place.place (record { name = []; kind = Input }) c.args.signals
      c.loop-place-test.true (sym c.has.ensures ∙ w.if-has.false) in
      ap (λ (vs : List Value). map view vs ++ names_from (c.loop-place.place + 1) (drop (c.loop-place.place + 1) ds)
      c.args.signals) (ap (λ v. v.items) w.names-is)
      ∙ ap (λ (left : List Data). map view c.loop-place.names.items ++ left) (sym later) ∙ c.loop-place.invariant
]

pub returns : goal.returns
returns c = c.from.ensures ∙
    ap (λ names. array (items_of names))
    (none_left c.declarations-declarations.result.now c.loop-place.place c.loop-place.names.items c.args.signals _
    c.loop-place-test.false c.loop-place.invariant
    ∙ ap (λ ds. names_from 0 ds c.args.signals) c.declarations-declarations.ensures.all)
