use Rattle.std.proofs.Common.{◌≡◌, ◌≤◌, drop, length, map, option_map}
use Rattle.est_link.specs.Inner.Scopes.{binders_of}
use Rattle.est_modules.specs.Modules.{program_of}
use Rattle.est_reduce.specs.Bodies.{seq, par}
use Rattle.est_link.specs.Inner.Tables.{bodies_of}
use Rattle.est_link.specs.Inner.Joins.{chained}
use Rattle.est_link.proofs.Places.{boxed_body, unit_linked, sequence_linked}
use Rattle.est_link.proofs.flatten.+flat.Given as goal

abbrev pub invariant-flat_sequence-loop-left : goal.invariant-flat_sequence-loop-left
invariant-flat_sequence-loop-left l =
    record {
      within : l.left ≤ length l.units;
      done : option_map boxed_body l.rest
          ≡ chained seq
          (unit_linked (map program_of l.at.linker.now.modules.now) (bodies_of l.at.linker.now.bodies.now)
          (program_of l.at.linker.now.home.now) (binders_of l.at.scope.now)) (drop l.left l.units);
    }

abbrev pub decreases-flat_sequence-loop-left : goal.decreases-flat_sequence-loop-left
decreases-flat_sequence-loop-left l = l.left

abbrev pub invariant-flat_statement-loop-left : goal.invariant-flat_statement-loop-left
invariant-flat_statement-loop-left l =
    record {
      within : l.left ≤ length l.sequences;
      done : option_map boxed_body l.rest
          ≡ chained par
          (sequence_linked (map program_of l.at.linker.now.modules.now) (bodies_of l.at.linker.now.bodies.now)
          (program_of l.at.linker.now.home.now) (binders_of l.at.scope.now)) (drop l.left l.sequences);
    }

abbrev pub decreases-flat_statement-loop-left : goal.decreases-flat_statement-loop-left
decreases-flat_statement-loop-left l = l.left
