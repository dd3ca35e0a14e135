use Rattle.std.proofs.Common.{◌≡◌, drop, map}
use Rattle.est_checks.specs.Emissions.{emitted_of, refused_at}
use Rattle.est_modules.specs.Modules.{program_of, first_in_bodies}
use Rattle.est_checks.proofs.input_emissions.first_refused.Given as goal

abbrev pub invariant-loop-home : goal.invariant-loop-home
invariant-loop-home l =
    let first = first_in_bodies (refused_at (map program_of l.modules) (emitted_of l.table)) in
    first (map program_of l.modules) ≡ first (map program_of (drop l.home-index l.modules))
