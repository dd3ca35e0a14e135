use Rattle.std.proofs.Common.{◌≡◌, ◌∙◌, arith, refl}
use Rattle.est_kernel.proofs.Masks.{bits_zero}
use Rattle.est_kernel.specs.Bits.{bits}
use Rattle.est_micro.specs.Inner.Outputs.{told_of}
use Rattle.est_micro.proofs.UpdatingSignals.{cell_within, exchanging_all, exchanging_none, exchanging_more}
use Rattle.est_micro.proofs.outputs.update_all_signals.Goals as goal

pub loop-n-init : goal.loop-n-init
loop-n-init c =
    record {
      exchanging = exchanging_none (bits c.args.signals) (told_of c.args.inputs c.args.judged.now) (bits 0) bits_zero
          c.args.net.now.cells.items;
      kept = refl;
    }

pub update_signal-read-requires-clause-within : goal.update_signal-read-requires-clause-within
update_signal-read-requires-clause-within c = λ h.
    let x = c.loop-n.invariant.exchanging.telling in
    let size = x.so_far.changes.size in
    cell_within (bits c.args.signals) c.args.places _ _ _ x.cell_is (omega arith)
    (omega (arith, size, c.requires.within)) h

pub loop-n-preserved : goal.loop-n-preserved
loop-n-preserved c =
    let r = c.update_signal-read.ensures in
    record {
      exchanging = exchanging_more (bits c.args.signals) _ (told_of c.args.inputs c.args.judged.now) _ _ _ _ _ _
          c.args.net.now.cells.items _ _ c.loop-n.invariant.exchanging r.told r.sure r.other_sure r.possible
          r.other_possible;
      kept = r.kept ∙ c.loop-n.invariant.kept;
    }

pub returns-clause-told : goal.returns-clause-told
returns-clause-told c =
    let e : c.loop-n.n ≡ c.args.places = omega arith in
    (exchanging_all _ _ _ _ _ _ _ _ _ e c.loop-n.invariant.exchanging).telling.so_far

pub returns-clause-sure : goal.returns-clause-sure
returns-clause-sure c =
    let e : c.loop-n.n ≡ c.args.places = omega arith in
    (exchanging_all _ _ _ _ _ _ _ _ _ e c.loop-n.invariant.exchanging).sure

pub returns-clause-possible : goal.returns-clause-possible
returns-clause-possible c =
    let e : c.loop-n.n ≡ c.args.places = omega arith in
    (exchanging_all _ _ _ _ _ _ _ _ _ e c.loop-n.invariant.exchanging).possible
