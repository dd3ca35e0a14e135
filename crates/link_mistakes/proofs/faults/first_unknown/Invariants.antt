use Rattle.std.proofs.Common.{◌≡◌, drop, map}
use Rattle.est_modules.specs.Modules.{program_of, first_in_bodies}
use Rattle.est_checks.specs.UnknownNames.{unknown_at}
use Rattle.link_mistakes.proofs.faults.first_unknown.Given as goal

abbrev pub invariant-loop-home : goal.invariant-loop-home
invariant-loop-home l =
    let first = first_in_bodies (unknown_at (map program_of l.modules)) in
    first (map program_of l.modules) ≡ first (map program_of (drop l.home-index l.modules))
