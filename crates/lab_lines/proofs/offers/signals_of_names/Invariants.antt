use Rattle.std.proofs.Common.{map, take}
use Rattle.lab_lines.specs.Offers.{AreNamed}
use Rattle.lab_lines.proofs.offers.signals_of_names.Given as goal

abbrev pub invariant-loop-name : goal.invariant-loop-name
invariant-loop-name l = AreNamed l.interface (map (λ t. t.now) (take l.name-index l.names)) l.signals
