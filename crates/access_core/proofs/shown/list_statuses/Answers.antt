use Rattle.std.proofs.Common.{◌∙◌, sym, get_or}
use Rattle.est_kernel.specs.Bits.{bits}
use Rattle.access_core.specs.Shown.{present_at}
use Rattle.access_core.proofs.Places.{shown_more, same_more, read_there}
use Rattle.access_core.proofs.shown.list_statuses.Goals.{then-has+in_ok-push, else-has}
use Rattle.access_core.proofs.shown.list_statuses.Goals as goal

pub loop-place-preserved : goal.loop-place-preserved
loop-place-preserved c = elim c.if-has.branch [
  | then-has+in_ok-push w ↦
      shown_more c.args.interface.now c.args.present c.args.seen c.loop-place.place
      (get_or c.declarations-declarations.result.now c.loop-place.place w.index-declarations-place.result)
      w.has-present.result c.loop-place.shown c.if-has.shown
      (read_there _ _ c.loop-place.place w.index-declarations-place.result c.declarations-declarations.ensures.all
      c.loop-place-test.true)
      (sym c.has.ensures ∙ w.if-has.true) w.has-present.ensures c.loop-place.invariant
      (w.shown-is ∙ w.in_ok-push.ensures.ok)
  | else-has w ↦ same_more (present_at c.args.interface.now c.args.present)
      (bits c.args.seen) c.loop-place.place c.loop-place.shown c.if-has.shown
      (sym c.has.ensures ∙ w.if-has.false) c.loop-place.invariant w.shown-is
]
