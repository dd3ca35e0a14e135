use Rattle.std.proofs.Common.{◌≡◌, map, take}
use Rattle.est_link.specs.MainModule.{declaration_of}
use Rattle.est_link.proofs.main_module.kernel_interface.Given as goal

abbrev pub invariant-loop-signal : goal.invariant-loop-signal
invariant-loop-signal l = l.interface ≡ map declaration_of (take l.signal-index l.declared)
