use Rattle.std.proofs.Common.{◌∙◌, sym, get_or}
use Rattle.est_kernel.specs.Bits.{bits}
use Rattle.access_core.specs.Shown.{name_at}
use Rattle.access_core.proofs.Places.{names_more, same_more, read_there}
use Rattle.access_core.proofs.shown.list_names.Goals.{then-has+in_ok-push, else-has}
use Rattle.access_core.proofs.shown.list_names.Goals as goal

pub loop-place-preserved : goal.loop-place-preserved
loop-place-preserved c = elim c.if-has.branch [
  | then-has+in_ok-push w ↦
      names_more c.args.interface.now (bits c.args.signals) c.loop-place.place
      (get_or c.declarations-declarations.result.now c.loop-place.place w.index-declarations-place.result)
      c.loop-place.names c.if-has.names
      (read_there _ _ c.loop-place.place w.index-declarations-place.result c.declarations-declarations.ensures.all
      c.loop-place-test.true)
      (sym c.has.ensures ∙ w.if-has.true) c.loop-place.invariant (w.names-is ∙ w.in_ok-push.ensures.ok)
  | else-has w ↦ same_more (name_at c.args.interface.now)
      (bits c.args.signals) c.loop-place.place c.loop-place.names c.if-has.names
      (sym c.has.ensures ∙ w.if-has.false) c.loop-place.invariant w.names-is
]
