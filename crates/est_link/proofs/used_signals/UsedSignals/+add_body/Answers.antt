use Rattle.std.proofs.Common.{ap, sym, subst}
use Rattle.std.proofs.lemmas.Result.{on_ok_weaker}
use Rattle.est_link.specs.Inner.OpenBodies.{closed_of, IsBodyKept}
use Rattle.est_link.proofs.UsedSignals.{run_kept}
use Rattle.est_link.proofs.used_signals.UsedSignals.+add_body.Goals as goal

pub returns-in-Run-clause-has : goal.returns-in-Run-clause-has
returns-in-Run-clause-has t c =
    let run = c.in-Run.run' in
    let new = c.add_meanings.new.self in
    on_ok_weaker c.add_meanings.result
    (λ kept. subst (IsBodyKept new) (ap closed_of (sym c.in-Run.is))
    (run_kept new run (closed_of c.in-Run.field-0.value) kept)) c.add_meanings.ensures.has
