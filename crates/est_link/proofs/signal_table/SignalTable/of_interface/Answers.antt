use Rattle.est_link.proofs.SignalTables.{no_signals, one_more}
use Rattle.est_link.proofs.signal_table.SignalTable.of_interface.Goals as goal

pub loop-signal-init : goal.loop-signal-init
loop-signal-init c =
    let none = no_signals c.new-signals.result.entries c.new-signals.ensures.empty in
    record { signals = none.0; table = none.1 }

pub loop-signal-preserved : goal.loop-signal-preserved
loop-signal-preserved c =
    let items = c.declarations-signal-items.ensures in
    let kept = c.loop-signal.invariant in
    let grown = one_more c.args.interface.now c.loop-signal.signal-index c.signal-item.result
    c.loop-signal.signals.entries c.insert.new.self.entries c.as_bytes-name.result (items.bound, items.distinct)
    (rw items.all at c.loop-signal-test.true) (rw items.all at c.signal-item.is) kept.signals kept.table
    c.as_bytes-name.ensures c.in-Ok.ensures.entries in
    record { signals = grown.0; table = grown.1 }
