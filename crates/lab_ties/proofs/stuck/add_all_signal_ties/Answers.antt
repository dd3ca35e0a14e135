use Rattle.std.proofs.Common.{◌≡◌, ◌∙◌, ◌++◌, ℕ, ap, arith, length}
use Rattle.lab_ties.specs.Stuck.{signal_ties}
use Rattle.lab_ties.proofs.Signals.{none_before, one_more}
use Rattle.lab_ties.proofs.stuck.add_all_signal_ties.Goals as goal

pub loop-place-init : goal.loop-place-init
loop-place-init c = none_before c.args.kernel.now c.args.undecided c.args.net.now.cells.items _

pub loop-place-preserved : goal.loop-place-preserved
loop-place-preserved c =
    one_more c.args.kernel.now c.args.undecided c.args.net.now.cells.items c.loop-place.place _ _ _
    c.in_ok-add_signal_ties.ensures c.loop-place.invariant

pub returns : goal.returns
returns c =
    let k = c.args.kernel.now in
    let all : length c.interface.result.now ≡ length k.interface = ap length c.interface.ensures in
    let ended : c.loop-place.place ≡ length k.interface = omega arith in
    c.loop-place.invariant
    ∙ ap (λ (n : ℕ). c.args.found.now.items ++ signal_ties k c.args.undecided c.args.net.now.cells.items n) ended
