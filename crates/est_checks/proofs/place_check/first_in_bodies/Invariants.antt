use Rattle.std.proofs.Common.{◌≡◌, drop, map}
use Rattle.est_modules.specs.Modules.{program_of, first_in_bodies}
use Rattle.est_checks.proofs.place_check.first_in_bodies.Given as goal

abbrev pub invariant-loop-home : goal.invariant-loop-home
invariant-loop-home g l =
    let first = first_in_bodies (g.C.PlaceCheck.fault l.check) in
    first (map program_of l.modules) ≡ first (map program_of (drop l.home-index l.modules))
