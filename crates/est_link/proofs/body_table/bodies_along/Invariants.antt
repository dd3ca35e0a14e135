use Rattle.std.proofs.Common.{map}
use Rattle.est_modules.specs.Modules.{program_of}
use Rattle.est_link.specs.Inner.Tables.{AreBodiesOf, HasFront}
use Rattle.est_link.proofs.body_table.bodies_along.Given as goal

abbrev pub invariant-loop-place : goal.invariant-loop-place
invariant-loop-place l =
    record {
      right : AreBodiesOf (map program_of l.modules) l.bodies;
      front : HasFront (map program_of l.modules) l.needed l.order l.place-index l.bodies;
    }
