use Rattle.std.proofs.Common.{◌≡◌, take}
use Rattle.indexmap.specs.IndexMap.{values}
use Rattle.est_link.specs.Inner.SignalTables.{IsTableOfSignals}
use Rattle.est_link.proofs.signal_table.SignalTable.of_interface.Given as goal

abbrev pub invariant-loop-signal : goal.invariant-loop-signal
invariant-loop-signal l =
    record {
      signals : values l.signals ≡ take l.signal-index l.interface;
      table : IsTableOfSignals l.signals.entries;
    }
