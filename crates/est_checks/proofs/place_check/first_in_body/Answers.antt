use Rattle.std.proofs.Common.{[], ◌∙◌}
use Rattle.est_modules.specs.Modules.{program_of}
use Rattle.est_modules.specs.Occurrences.{occurrences}
use Rattle.est_checks.proofs.First.{fold_first}
use Rattle.est_checks.proofs.place_check.first_in_body.Goals as goal

pub returns : goal.returns
returns g c =
    let p = program_of c.args.home.now in
    c.in_ok-walk_body.ensures ∙ fold_first (g.C.PlaceCheck.fault c.args.check.now p) (occurrences [] p.body)
