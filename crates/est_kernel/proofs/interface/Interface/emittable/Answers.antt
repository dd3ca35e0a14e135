use Rattle.std.proofs.Common.{◌≡◌, sym, ◌∙◌, ap}
use mathlib.Core.Path.{fun_ext}
use Rattle.est_kernel.specs.Interfaces.{can_be_emitted, emittable}
use Rattle.est_kernel.proofs.Interfaces.{declares_at, with_next, without_next, none_looked_at, all_looked_at}
use Rattle.est_kernel.specs.declared.interface.Declaration.{Declaration}
use Rattle.est_kernel.proofs.Masks.{bits_zero}
use Rattle.est_kernel.proofs.interface.Interface.emittable.Goals.{then-can_be_emitted, else-can_be_emitted}
use Rattle.est_kernel.proofs.interface.Interface.emittable.Goals as goal

pub loop-place-init : goal.loop-place-init
loop-place-init c n = none_looked_at _ _ n (bits_zero n)

pub loop-place-preserved : goal.loop-place-preserved
loop-place-preserved c =
    let items : c.deref-declaration-items.result.now ≡ c.args.self.now = cc in
    let at : emittable c.args.self.now c.loop-place.place ≡ c.can_be_emitted.result =
    declares_at can_be_emitted c.args.self.now c.loop-place.place c.declaration-item.result
    (rw (← items) c.loop-place-test.true)
    ∙ (ap (λ (d : Declaration). can_be_emitted d.kind) (sym (rw items at c.declaration-item.is))
    ∙ sym c.can_be_emitted.ensures) in
    elim c.if-can_be_emitted.branch [
      | then-can_be_emitted w ↦ rw w.signals-is (with_next _ _
          (emittable c.args.self.now) c.loop-place.place w.with-signals.ensures.same
          w.with-signals.ensures.other (at ∙ w.if-can_be_emitted.true) c.loop-place.invariant)
      | else-can_be_emitted w ↦ rw w.signals-is (without_next _ (emittable c.args.self.now) c.loop-place.place
          (at ∙ w.if-can_be_emitted.false) c.loop-place.invariant)
    ]

pub returns : goal.returns
returns c =
    let items : c.deref-declaration-items.result.now ≡ c.args.self.now = cc in
    fun_ext (all_looked_at can_be_emitted c.args.self.now _ c.loop-place.place
    (rw (← items) c.loop-place-test.false) c.loop-place.invariant)
