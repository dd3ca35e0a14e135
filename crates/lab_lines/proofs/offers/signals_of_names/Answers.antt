use Rattle.std.proofs.Common.{[]}
use Rattle.std.proofs.lemmas.List.Elements.{All-nil}
use Rattle.std.proofs.lemmas.Result.{err_from_is_err_and}
use Rattle.est_kernel.proofs.Masks.{bits_zero}
use Rattle.lab_lines.specs.Offers.{IsOfferable}
use Rattle.lab_lines.proofs.OfferLemmas.{first_not_offered, named_next}
use Rattle.lab_lines.proofs.offers.signals_of_names.Goals as goal

pub loop-name-init : goal.loop-name-init
loop-name-init c = record {
  offered = All-nil (IsOfferable c.args.interface.now);
  only = λ n. bits_zero n;
}

pub loop-name-preserved : goal.loop-name-preserved
loop-name-preserved c = named_next c.args.interface.now c.args.names.now c.loop-name.name-index
    (record { ref_ptr = (0, 0); now = [] }) c.loop-name.signals c.in_ok-signal.signal c.union-signals.result
    c.loop-name-test.true c.loop-name.invariant c.in_ok-signal.ensures.offered c.in_ok-signal.ensures.only
    c.union-signals.ensures

pub returns-in_err-signal-clause-fault : goal.returns-in_err-signal-clause-fault
returns-in_err-signal-clause-fault c =
    let p = err_from_is_err_and c.from_residual.result c.from_residual.ensures.1 in
    rw (p.1, p.2)
    (first_not_offered c.args.interface.now c.args.names.now c.loop-name.name-index
    (record { ref_ptr = (0, 0); now = [] }) c.loop-name.signals c.in_err-signal.field-0.0 c.loop-name-test.true
    c.loop-name.invariant c.in_err-signal.ensures.fault)
