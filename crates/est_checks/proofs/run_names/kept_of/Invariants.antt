use Rattle.std.proofs.Common.{map}
use Rattle.est_modules.specs.FirstPlaces.{AreFirstPlaces}
use Rattle.est_modules.specs.OpenNames.{AreKept}
use Rattle.est_modules.specs.declared.names.kept.Kept.{Kept}
use Rattle.est_checks.proofs.run_names.kept_of.Given as goal

abbrev pub invariant-loop-home : goal.invariant-loop-home
invariant-loop-home g l =
    record {
      places : AreFirstPlaces l.kept_places (map (λ (k : Kept). k.module_name) l.kept.items);
      kept : AreKept l.table (g.C.Choice.chosen l.choice) l.kept.items;
    }
