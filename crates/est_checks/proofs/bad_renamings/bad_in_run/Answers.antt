use Rattle.std.proofs.Common.{◌∙◌}
use Rattle.est_modules.specs.Modules.{program_of}
use Rattle.est_checks.proofs.Listing.{bad_found}
use Rattle.est_checks.proofs.bad_renamings.bad_in_run.Goals as goal

pub returns : goal.returns
returns c =
    rw c.in-Some.is (c.misnamed.ensures ∙ bad_found (program_of c.in-Some.run'.now) c.args.renamings.now)
