use Rattle.std.proofs.Common.{◌∙◌, ap}
use Rattle.std.specs.List.{list_any}
use Rattle.est_kernel.specs.Interfaces.{is_named}
use Rattle.est_link.proofs.Distinct.{new_signal}
use Rattle.est_link.proofs.main_module.kernel_interface.Goals as goal

pub declare-requires-clause-new_name : goal.declare-requires-clause-new_name
declare-requires-clause-new_name c =
    rw c.declaration_of.ensures (ap (list_any (is_named c.signal-item.result.name)) c.loop-signal.invariant
    ∙ new_signal c.args.declared.now c.loop-signal.signal-index c.signal-item.result c.requires.distinct
    c.loop-signal-test.true c.signal-item.is)
