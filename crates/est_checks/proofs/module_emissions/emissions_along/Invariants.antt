use Rattle.std.proofs.Common.{map}
use Rattle.est_checks.specs.Emissions.{emitted_of}
use Rattle.est_checks.specs.Inner.EmissionsBefore.{AreEmissionsBefore}
use Rattle.est_checks.specs.Inner.EmittedNumbers.{AreEmittedNumbers}
use Rattle.est_modules.specs.Modules.{program_of}
use Rattle.est_checks.proofs.module_emissions.emissions_along.Given as goal

abbrev pub invariant-loop-place : goal.invariant-loop-place
invariant-loop-place l =
    record {
      emitted : AreEmissionsBefore (map program_of l.modules) l.order l.place-index (emitted_of l.table);
      numbers : AreEmittedNumbers l.names (map program_of l.modules) (emitted_of l.table) l.numbers;
    }
