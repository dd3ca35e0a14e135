use Rattle.std.proofs.Common.{◌+◌, ◌*◌, max}
use Rattle.est_kernel.proofs.statement.Statement.TheLaws.{the_size}
use Rattle.est_net.proofs.emissions.+add_emissions.Given as goal

abbrev pub decreases-add_emissions : goal.decreases-add_emissions
decreases-add_emissions l = 2 * the_size l.s.now

abbrev pub decreases-add_emissions_of_two : goal.decreases-add_emissions_of_two
decreases-add_emissions_of_two l = 2 * max (the_size l.p.now) (the_size l.q.now) + 1
