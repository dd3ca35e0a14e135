use Rattle.std.proofs.Common.{◌≡◌, true, false, refl, ◌∙◌}
use mathlib.Core.Path.{fun_ext}
use Rattle.est_kernel.specs.Term.{Name}
use Rattle.est_kernel.specs.View.{name_of}
use Rattle.est_meaning.specs.Signals.{no_signals, only}
use Rattle.est_cells.specs.Tables.{if_run}
use Rattle.est_micro.proofs.must_can.signal_if.Goals as goal

run_true : (n : Name) → only n ≡ if_run true n
unfolding if_run
run_true n = fun_ext (λ x. refl)

run_false : (n : Name) → no_signals ≡ if_run false n
unfolding if_run no_signals
run_false n = fun_ext (λ x. refl)

pub returns-then-is_in : goal.returns-then-is_in
returns-then-is_in c = rw c.if-is_in.true (c.only_signal.ensures ∙ run_true (name_of c.args.signal))

pub returns-else-is_in : goal.returns-else-is_in
returns-else-is_in c = rw c.if-is_in.false (c.no_signal.ensures ∙ run_false (name_of c.args.signal))
