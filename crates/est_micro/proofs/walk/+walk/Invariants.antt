use Rattle.std.proofs.Common.{◌≡◌, ◌+◌, ◌*◌}
use Rattle.est_meaning.specs.Views.{env_of}
use Rattle.est_net.specs.Kept.{kept}
use Rattle.est_net.specs.Owners.{statements}
use Rattle.est_micro.specs.Engine.{IsNetOf}
use Rattle.est_micro.specs.Inner.Walks.{Walks}
use Rattle.est_micro.proofs.walk.+walk.Given as goal

abbrev pub decreases-walk : goal.decreases-walk
decreases-walk l = 4 * statements l.part.now.statement.now + 2

abbrev pub decreases-walk_parts : goal.decreases-walk_parts
decreases-walk_parts l = 4 * statements l.part.now.statement.now + 1

abbrev pub decreases-walk_side : goal.decreases-walk_side
decreases-walk_side l = 4 * statements l.side.now.statement.now + 3

abbrev pub decreases-walk_par : goal.decreases-walk_par
decreases-walk_par l = 4 * statements l.part.now.statement.now

abbrev pub decreases-walk_seq : goal.decreases-walk_seq
decreases-walk_seq l = 4 * statements l.part.now.statement.now

abbrev pub decreases-walk_present : goal.decreases-walk_present
decreases-walk_present l = 4 * statements l.part.now.statement.now

abbrev pub decreases-walk_loop : goal.decreases-walk_loop
decreases-walk_loop l = 4 * statements l.part.now.statement.now

abbrev pub decreases-walk_inside : goal.decreases-walk_inside
decreases-walk_inside l = 4 * statements l.p.now + 4

abbrev pub decreases-walk_local : goal.decreases-walk_local
decreases-walk_local l = 4 * statements l.part.now.statement.now

abbrev pub invariant-walk_par-loop-n : goal.invariant-walk_par-loop-n
invariant-walk_par-loop-n l =
    (kept l.net ≡ kept l.fn.net) × IsNetOf l.net l.question.kernel.now
    × Walks l.question l.part (env_of l.fn.known) (env_of l.known) l.fn.net.cells.items l.net.cells.items
