use Rattle.std.proofs.Common.{sym, map}
use Rattle.est_modules.specs.Modules.{program_of}
use Rattle.est_link.proofs.Checking.{is_checked}
use Rattle.est_link.proofs.link.flat_module.Goals as goal

pub main_module-requires-clause-distinct : goal.main_module-requires-clause-distinct
main_module-requires-clause-distinct c =
    let checked = is_checked (map program_of c.args.modules.now) c.args.main.now c.requires.checked in
    (checked.home (program_of c.in-Some.home.now) (sym c.in-Some.ensures)).distinct

pub main_module-requires-clause-bound : goal.main_module-requires-clause-bound
main_module-requires-clause-bound c =
    let checked = is_checked (map program_of c.args.modules.now) c.args.main.now c.requires.checked in
    c.in_ok-body.ensures.bound checked.emitted (program_of c.in-Some.home.now) checked.names (sym c.in-Some.ensures)
