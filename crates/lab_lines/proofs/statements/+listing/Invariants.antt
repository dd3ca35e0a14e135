use Rattle.std.proofs.Common.{◌+◌, ◌*◌, max}
use Rattle.est_kernel.proofs.statement.Statement.TheLaws.{the_size}
use Rattle.lab_lines.proofs.statements.+listing.Given as goal

abbrev pub decreases-add_statement : goal.decreases-add_statement
decreases-add_statement l = 2 * the_size l.statement.now

abbrev pub decreases-add_one_part : goal.decreases-add_one_part
decreases-add_one_part l = 2 * the_size l.part.now + 1

abbrev pub decreases-add_parts : goal.decreases-add_parts
decreases-add_parts l = 2 * max (the_size l.first.now) (the_size l.second.now) + 1
