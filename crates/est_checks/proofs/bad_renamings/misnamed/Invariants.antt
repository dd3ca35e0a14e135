use Rattle.std.proofs.Common.{◌≡◌, drop, map}
use Rattle.std.specs.List.{find}
use Rattle.est_syntax.specs.Views.{renaming_view}
use Rattle.est_syntax.specs.declared.tree.Renaming.{Renaming}
use Rattle.est_modules.specs.Modules.{program_of}
use Rattle.est_checks.specs.BadRenamings.{is_misnamed}
use Rattle.est_checks.proofs.bad_renamings.misnamed.Given as goal

abbrev pub invariant-loop-renaming : goal.invariant-loop-renaming
invariant-loop-renaming l =
    let first = find (λ (r : Renaming). is_misnamed (program_of l.run) (map renaming_view l.renamings) r.inner) in
    first l.renamings ≡ first (drop l.renaming-index l.renamings)
