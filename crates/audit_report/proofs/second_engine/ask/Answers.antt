use Rattle.audit_report.proofs.SecondEngine.{inputs_fit, outcome_of, no_outcome_of}
use Rattle.audit_report.proofs.second_engine.ask.Goals as goal

pub react-requires-clause-inputs : goal.react-requires-clause-inputs
react-requires-clause-inputs g c =
    let runs = c.pending.ensures.inputs in
    inputs_fit c.one_module.ensures c.args.reactor.now c.args.kernel.now c.args.state.now
    c.requires.left runs.0 runs.1 c.pending.result runs.2

pub returns-in-Ok-clause-ok : goal.returns-in-Ok-clause-ok
returns-in-Ok-clause-ok g c =
    let runs = c.pending.ensures.mask in
    outcome_of c.one_module.ensures c.args.reactor.now c.args.kernel.now c.args.state.now
    c.requires.left runs.0 runs.1 (record { signals = c.pending.result }) c.in-Ok.outcome runs.2
    c.in-Ok.ensures.ok

pub returns-in-Err-clause-err : goal.returns-in-Err-clause-err
returns-in-Err-clause-err g c =
    let runs = c.pending.ensures.mask in
    no_outcome_of c.one_module.ensures c.args.reactor.now c.args.kernel.now c.args.state.now
    c.requires.left runs.0 runs.1 (record { signals = c.pending.result }) c.in-Err.stuck runs.2
    c.in-Err.ensures.stuck
